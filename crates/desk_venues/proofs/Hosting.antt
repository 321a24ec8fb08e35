-- The hosts of a venue's addresses, one more.
use Rattle.std.proofs.Common.{◌≡◌, ℕ, ◌+◌, ◌<◌, ◌≤◌, List, [], ◌∷◌, ◌++◌, length, take, get_or, refl, sym, ap, ◌∙◌}
use Rattle.std.specs.Prelude.{Option, Some, None, option_map, option_to_list}
use Rattle.std.proofs.lemmas.List.{take_all, take_more}
use Rattle.std.proofs.lemmas.List.Elements.{filter_map-append}
use Rattle.desk_config.specs.declared.address.Address.{Address}
use Rattle.link.specs.Hosts.{HostParts}
use Rattle.desk_venues.specs.Addresses.{host_of, backups_of}

one_host : (backup : Option Address) → backups_of (backup ∷ []) ≡ option_to_list (option_map host_of backup)
one_host None = refl
one_host (Some address) = refl

backups_more : (backups : List (Option Address)) (i : ℕ) (backup : Option Address) → i < length backups
    → backup ≡ get_or backups i backup
    → backups_of (take (i + 1) backups) ≡ backups_of (take i backups) ++ option_to_list (option_map host_of backup)
backups_more backups i backup below is =
    ap backups_of (take_more backups i backup below ∙ ap (λ b. take i backups ++ b ∷ []) (sym is))
    ∙ (filter_map-append (option_map host_of) (take i backups) (backup ∷ [])
    ∙ ap (λ hosts. backups_of (take i backups) ++ hosts) (one_host backup))

-- one host more
pub hosts_more : (backups : List (Option Address)) (i : ℕ) (backup : Option Address) (first : HostParts)
    (hosts now : List HostParts) → i < length backups
    → backup ≡ get_or backups i backup
    → hosts ≡ first ∷ backups_of (take i backups)
    → now ≡ hosts ++ option_to_list (option_map host_of backup)
    → now ≡ first ∷ backups_of (take (i + 1) backups)
hosts_more backups i backup first hosts now below is so_far grew =
    grew
    ∙ (ap (λ all. all ++ option_to_list (option_map host_of backup)) so_far
    ∙ ap (λ all. first ∷ all) (sym (backups_more backups i backup below is)))

-- all of them
pub hosts_all : (backups : List (Option Address)) (i : ℕ) (first : HostParts) (hosts : List HostParts)
    → length backups ≤ i → hosts ≡ first ∷ backups_of (take i backups) → hosts ≡ first ∷ backups_of backups
hosts_all backups i first hosts past so_far =
    so_far ∙ ap (λ some. first ∷ backups_of some) (take_all i backups past)
