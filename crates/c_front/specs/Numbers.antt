-- Whether what units define has their numbers.
use Rattle.std.specs.Prelude.{ℕ, ◌+◌, ◌&&◌, Bool, true, nat_eq, List, [], ◌∷◌}
use Rattle.std.specs.List.{list_all}
use Rattle.c_tree.specs.Conditions.{TUnit}

abbrev pub unit_numbered : ℕ → TUnit → Bool
unit_numbered n u = list_all (λ f. nat_eq f.unit n) u.functions && list_all (λ g. nat_eq g.unit n) u.globals

abbrev pub all_numbered : ℕ → List TUnit → Bool
all_numbered n [] = true
all_numbered n (u ∷ us) = unit_numbered n u && all_numbered (n + 1) us
