-- Calls under a bound, and the meaning of entry bodies.
use Rattle.std.specs.Prelude.{ℕ, zero, suc, ◌+◌, ◌*◌, Bool, true, false, cond, ltb, List, [], ◌∷◌, ◌++◌, map, length, slice_index, slice_get, Option, Some, None}
use Rattle.std.specs.List.{filter}
use Rattle.cm_base.specs.declared.regions.TheConstants.{SECURE_DATA}
use Rattle.cm_base.specs.declared.stop.Stop.TheVariants.{DataStack}
use Rattle.ns_types.specs.declared.event.CEvent.TheVariants as c
use Rattle.ns_types.specs.declared.event.End.TheVariants as end
use Rattle.ns_types.specs.declared.event.Bound.{Bound}
use Rattle.ns_types.specs.Boundary.{eight_zeros}
use Rattle.ns_types.specs.CRun.{World, Outcome, Gave, Over, emit, mark_at, reach, stop_with, phase}
use Rattle.c_types.specs.Kind.{Look, look, is_void}
use Rattle.c_types.specs.declared.ctype.CType.{CType}
use Rattle.c_types.specs.declared.ctype.Shape.TheOpen as shape
use Rattle.c_types.specs.declared.ctype.Shape.TheOpen.{Shape-F}
use Rattle.c_tree.specs.Conditions.{Program}
use Rattle.c_tree.specs.Slots.{slots}
use Rattle.c_tree.specs.declared.program.TFunction.{TFunction}
use Rattle.c_tree.specs.declared.program.TLocal.{TLocal}
use Rattle.c_mean.specs.declared.flow.Flow.{Flow}
use Rattle.c_mean.specs.declared.flow.Flow.TheVariants as flow
use Rattle.c_mean.specs.Parts.{Out, Has, Part, then_with, closing}
use Rattle.c_mean.specs.Homes.{homes, data_stack, block_of, block_bytes, cleared}
use Rattle.c_mean.specs.Values.{Spot, Unplaced, At, spot_in, converted, returned, write_spot}
use Rattle.c_mean.specs.Exprs.{Around}
use Rattle.c_mean.specs.Stmts.{Does, does}

-- the stack that an active function needs, in bytes
abbrev pub need : TFunction → ℕ
need f = 128 + 4 * slots f

abbrev pub entry_functions : Program → List TFunction
entry_functions p = filter (λ f. f.entry) p.functions

-- ---- parameters and results

-- the first values of parameters: the arguments, which an entry function converts, whoever calls it
abbrev pub parameters : Bool → List TLocal → List ℕ → List ℕ
parameters entry [] args = []
parameters entry (x ∷ xs) [] = 0 ∷ parameters entry xs []
parameters entry (x ∷ xs) (a ∷ args) = cond entry (converted x.ctype a) a ∷ parameters entry xs args

-- the first values of parameters and locals
abbrev pub first_values : TFunction → List ℕ → List ℕ
first_values f args = parameters f.entry f.params args ++ map (λ x. 0) f.locals

-- what is placed is written to its home
abbrev pub homed : CType → Spot → ℕ → Part ℕ
homed t (Unplaced n) v l w = Has v l w
homed t (At a) v l w = write_spot t (At a) v l w

-- so are the parameters, the first of which is local n
abbrev pub all_homed : ℕ → List TLocal → Does
all_homed n [] around l w = Has flow.Next l w
all_homed n (x ∷ xs) around l w =
    then_with (homed x.ctype (spot_in around.block (slice_get around.offsets n) n) (slice_index l n) l w) (λ v. all_homed (suc n) xs around)

-- the parameters, and then the body
abbrev pub runs : TFunction → Does
runs f around l w = then_with (all_homed 0 f.params around l w) (λ v. does f.body around)

abbrev pub result_as : Look → ℕ → ℕ
result_as (shape.Function gives params nonsecure) x = returned gives x
result_as _ x = x

-- what `return` makes of a value: an entry function converts it to its result (C11 6.8.6.4), as the tree of any function does
abbrev pub result : TFunction → ℕ → ℕ
result f x = cond f.entry (result_as (look f.ctype) x) x

-- ---- activations

-- what a call does: whether Non-secure code calls, the need of the functions that are active already, the first free byte of
-- the data stack, the function, and its arguments
abbrev pub Caller : Type 0
Caller = Bool → ℕ → ℕ → Option TFunction → List ℕ → World → Outcome

-- Non-secure code's move, with the entries that it calls in it
abbrev pub entered : Program → (ℕ → Option ℕ) → ℕ → (Option TFunction → List ℕ → World → Outcome) → World → Outcome
entered p enters turns enter w = phase enters (λ e. enter (slice_get (entry_functions p) e)) turns (length w.turns) w

-- a Non-secure call: what it shows, and then that move
abbrev pub called_out : (World → Outcome) → ℕ → List ℕ → World → Outcome
called_out move target args w = move (emit (c.Called target args) (mark_at target eight_zeros w) w)

-- what stands around an activation, whose block begins at an address; load is with its own need
abbrev pub inside : Program → (ℕ → Option ℕ) → ℕ → Caller → Bool → ℕ → ℕ → TFunction → Around
inside p enters turns call from_ns load block f = record {
  block = block;
  offsets = (block_of f).offsets;
  globals = homes p.globals;
  call = λ n. call false load (block + block_bytes f) (slice_get p.functions n);
  ns_call = called_out (entered p enters turns (call true load (block + block_bytes f)));
  from_ns = from_ns;
  turns = turns;
  returned = result f;
}

-- the world with the need of the active functions, and the block that begins at an address cleared
abbrev pub begun : ℕ → ℕ → ℕ → World → World
begun load block n w = record (reach load w) { memory = cleared block n w.memory }

-- An activation: its block is taken, the locals and the block are 0, the parameters are set, and the body runs. Then the block
-- is given back.
abbrev pub activation : Program → (ℕ → Option ℕ) → ℕ → Caller → Bool → ℕ → ℕ → TFunction → List ℕ → World → Outcome
activation p enters turns call from_ns load block f args w =
    cond (ltb SECURE_DATA.to (block + block_bytes f)) (stop_with DataStack (reach load w))
    (closing (runs f (inside p enters turns call from_ns load block f) (first_values f args) (begun load block (block_bytes f) w)))

abbrev pub on_function : Option TFunction → World → (TFunction → Outcome) → Outcome
on_function (Some f) w go = go f
on_function None w go = Over end.Stopped w

-- A call where at most `deep` functions are active from it on; enters says which entry stands at an address.
abbrev pub call : Program → (ℕ → Option ℕ) → ℕ → ℕ → Caller
call p enters turns zero from_ns load block f args w = Over end.Spent w
call p enters turns (suc deep) from_ns load block f args w =
    on_function f w (λ g. activation p enters turns (call p enters turns deep) from_ns (load + need g) block g args w)

-- the meaning of entry bodies
abbrev pub meaning : Program → (ℕ → Option ℕ) → Bound → ℕ → List ℕ → World → Outcome
meaning p enters b e args w = call p enters b.turns b.deep true 0 (data_stack p.globals) (slice_get (entry_functions p) e) args w
