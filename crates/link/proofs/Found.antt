-- The addresses that a look-up gave, one after another.
use Rattle.std.proofs.Common.{◌≡◌, ℕ, ◌+◌, suc, List, [], ◌∷◌, take, sym, ap, subst, ◌∙◌, arith}
use Rattle.std.proofs.lemmas.List.Elements.{All-nil, All-cons, All-weaker}
use Rattle.std.specs.List.{All}
use Rattle.std.specs.Net.ToAddrs.{HostAddrs, host_addrs}
use Rattle.std.specs.declared.net.socket_addr.SocketAddr.{SocketAddr}
use Rattle.std.specs.Array.Iter.{array_into_iter_items}
use Rattle.std.specs.Iterator.Adapters.{take_source, take_count}
use Rattle.link.specs.Hosts.{HostParts, StandsFor, AreOfTurn}
use Rattle.link.specs.Goals.{LeadsTo}
use Rattle.link.specs.declared.goal.Goal.{Goal}
use Rattle.link.specs.declared.goal.Goal.TheVariants.{Hosts}

-- the first of them, and the others
pub one_more : (found left : HostAddrs) (addr : SocketAddr)
    → array_into_iter_items (take_source found) ≡ addr ∷ array_into_iter_items (take_source left)
    → take_count left + 1 ≡ take_count found → host_addrs found ≡ addr ∷ host_addrs left
one_more found left addr items counts =
    let count : suc (take_count left) ≡ take_count found = omega (arith, counts) in
    ap (λ (l : List SocketAddr). take (take_count found) l) items
    ∙ ap (λ (n : ℕ). take n (addr ∷ array_into_iter_items (take_source left))) (sym count)

-- of a host that has its turn, each of them is one to which the link may be dialled
pub of_turn : (hosts : List HostParts) (turn : ℕ) (addrs : List SocketAddr) → AreOfTurn hosts turn addrs
    → All (λ (addr : SocketAddr). AreOfTurn hosts turn (addr ∷ [])) addrs
of_turn hosts turn addrs are =
    All-weaker (StandsFor are.host) (λ (addr : SocketAddr). AreOfTurn hosts turn (addr ∷ []))
    (λ addr stands. record {
      host = are.host;
      has_turn = are.has_turn;
      each = All-cons (StandsFor are.host) addr [] stands (All-nil (StandsFor are.host));
    }) addrs are.each

pub all_lead : (there : Goal) (hosts : _) (turn : ℕ) (addrs : List SocketAddr) → there ≡ Hosts hosts
    → AreOfTurn hosts.items turn addrs → All (LeadsTo there turn) addrs
all_lead there hosts turn addrs is are =
    subst (λ (to : Goal). All (LeadsTo to turn) addrs) (sym is) (of_turn hosts.items turn addrs are)
