-- The first address that a host and a port give is one that they stand for.
use Rattle.std.proofs.Common.{◌≡◌, ℕ, ◌+◌, suc, List, [], ◌∷◌, take, Some, None, Ok, Err, sym, ap, subst, ◌∙◌, arith}
use Rattle.std.specs.Prelude.{Option, Result, IfSome}
use Rattle.std.specs.Result.{OkIff, result_ok}
use Rattle.std.specs.Net.Grammar.{IsIpText}
use Rattle.std.specs.Net.ToAddrs.{HostAddrs, GivesHostAndPort, IsHostAndPort}
use Rattle.std.specs.declared.net.ip_addr.IpAddr.{IpAddr}
use Rattle.std.specs.declared.net.socket_addr.SocketAddr.{SocketAddr}
use Rattle.std.specs.Array.Iter.{array_into_iter_items, array_steps}
use Rattle.std.specs.Iterator.Adapters.{take_source, take_count, take_steps}

first_of : (addrs rest : List SocketAddr) (many left : ℕ) (first one : SocketAddr) → addrs ≡ first ∷ rest
    → left + 1 ≡ many → take many addrs ≡ one ∷ [] → first ≡ one
first_of addrs rest many left first one are more given =
    let count : suc left ≡ many = omega (arith, more) in
    let taken : first ∷ take left rest ≡ one ∷ [] =
    ap (λ l. take (suc left) l) (sym are) ∙ (ap (λ n. take n addrs) count ∙ given) in
    cc taken

pub stands_for : (host : List ℕ) (port : ℕ) (result : _) (found left : HostAddrs)
    (next : Option SocketAddr) → GivesHostAndPort host port result → Some found ≡ result_ok result
    → take_steps array_steps found next left
    → IfSome next (λ addr. (ip : IpAddr) → IsIpText host ip → IsHostAndPort host port addr)
stands_for host port (Err error) found left next gives is steps = absurd cc
stands_for host port (Ok it) found left None gives is steps = tt
stands_for host port (Ok it) found left (Some addr) gives is steps = λ ip text.
    let one = gives ip text in
    let same : it ≡ found = sym (cc is) in
    let first : addr ≡ one.0 = first_of (array_into_iter_items (take_source found))
    (array_into_iter_items (take_source left)) (take_count found) (take_count left) addr one.0 steps.0 steps.1
    (subst (λ (i : HostAddrs). take (take_count i) (array_into_iter_items (take_source i)) ≡ one.0 ∷ []) same one.1) in
    subst (λ (a : SocketAddr). IsHostAndPort host port a) (sym first) one.2

pub port_is : {E : Type 0} (tried : Result ℕ E) (fits : Type 0) (port read : ℕ) → OkIff tried fits port
    → Some read ≡ result_ok tried → read ≡ port
port_is (Err error) fits port read iff is = absurd cc
port_is (Ok n) fits port read iff is = cc is ∙ iff.1
