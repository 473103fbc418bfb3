-- What each build keeps of the one before it, each keeps of all earlier ones.
use Rattle.std.proofs.Common.{◌≡◌, ℕ, zero, suc, ◌<◌, List, [], ◌∷◌, length, get_or, All, AllPairs, Contains, arith}
use Rattle.std.proofs.lemmas.List.Elements.{All-weaker, All-contains}
use Rattle.ns_types.specs.declared.event.Veneer.{Veneer}
use Rattle.veneer_laws.specs.Veneers.{Keeps, EachKeeps, KeepLaw}

keeps_both : (a b c : List Veneer) → Keeps a b → Keeps b c → Keeps a c
keeps_both a b c ab bc = All-weaker (Contains b) (Contains c) (λ v is. All-contains (Contains c) b v bc is) a ab

keeps_all : (a : List Veneer) (builds : List (List Veneer)) → EachKeeps (a ∷ builds) → (j : ℕ) (d : List Veneer) → j < length builds → Keeps a (get_or builds j d)
keeps_all a [] each j d lt = absurd (omega (arith, lt))
keeps_all a (b ∷ builds) each zero d lt = each.0
keeps_all a (b ∷ builds) each (suc j) d lt =
    keeps_both a b (get_or builds j d) each.0 (keeps_all b builds each.1 j d (omega (arith, lt)))

rest : (a : List Veneer) (builds : List (List Veneer)) → EachKeeps (a ∷ builds) → EachKeeps builds
rest a [] each = tt
rest a (b ∷ builds) each = each.1

pub keep : KeepLaw
keep [] each i j d lt below = absurd (omega (arith, below))
keep (a ∷ builds) each i zero d lt below = absurd (omega (arith, lt))
keep (a ∷ builds) each zero (suc j) d lt below = keeps_all a builds each j d (omega (arith, below))
keep (a ∷ builds) each (suc i) (suc j) d lt below =
    keep builds (rest a builds each) i j d (omega (arith, lt)) (omega (arith, below))
