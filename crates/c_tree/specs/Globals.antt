-- Where globals stand in Secure data.
use Rattle.std.specs.Prelude.{ℕ, ◌+◌, ◌-◌, ◌%◌, max, Bool, true, false, not, List}
use Rattle.std.specs.List.{filter, fold, list_all}
use Rattle.std.specs.Option.{unwrap_or}
use Rattle.c_types.specs.Sizes.{align_of, fits}
use Rattle.c_tree.specs.declared.program.TGlobal.{TGlobal}
use Rattle.c_tree.specs.Slots.{bytes_of}

-- the least multiple of n that isn't below a number
abbrev pub round_up : ℕ → ℕ → ℕ
round_up at n = at + (n - at % n) % n

-- where a global ends that stands behind so many bytes, aligned
abbrev pub end_after : ℕ → TGlobal → ℕ
end_after at g = round_up at (max (unwrap_or (align_of g.ctype) 1) 1) + bytes_of g.ctype

-- whether a global is left as it is at the start, or isn't
abbrev pub stands : Bool → TGlobal → Bool
stands true g = g.noinit
stands false g = not g.noinit

-- no array or struct in the types of these globals is too large
abbrev pub all_fit : List TGlobal → Bool
all_fit gs = list_all (λ g. fits g.ctype) gs

-- the bytes of globals: they stand one after another, those that are left as they are at the start behind all others
abbrev pub globals_bytes : List TGlobal → ℕ
globals_bytes gs = fold end_after (fold end_after 0 (filter (stands false) gs)) (filter (stands true) gs)
