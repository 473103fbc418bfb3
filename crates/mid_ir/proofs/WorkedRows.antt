-- Statements and calls at values that are known.
use Rattle.std.proofs.Common.{◌≡◌, ℕ, zero, suc, Bool, true, false, refl, sym, ap, ◌∙◌, subst, arith, List, [], ◌∷◌, codes, Option, Some, None}
use Rattle.ns_types.specs.declared.event.CEvent.TheVariants as c
use Rattle.ns_types.specs.declared.event.End.TheVariants as end
use Rattle.ns_types.specs.Memory.{store, put_word}
use Rattle.ns_types.specs.Access.{write_access}
use Rattle.ns_types.specs.CRun.{World, Outcome, Gave, Over, reach, emit_plain}
use Rattle.mid_ir.specs.declared.stmt.SetOp.TheVariants as op
use Rattle.mid_ir.specs.declared.stmt.MidStmt.{MidStmt}
use Rattle.mid_ir.specs.declared.stmt.MidStmt.TheVariants as mid
use Rattle.mid_ir.specs.declared.stmt.MidStmt.TheOpen.{Seq, Const, Set, Call, Block, Break, Return}
use Rattle.mid_ir.specs.declared.program.MidFn.{MidFn}
use Rattle.mid_ir.specs.Activation.{first, Site, site_of}
use Rattle.mid_ir.specs.Run.{Out, Next, Broke, Gives, Stops, then_do, caught, loop, from_call, Action, do_all, run_step, run}
use Rattle.mid_ir.specs.Cost.{cost, count}
use Rattle.mid_ir.specs.Whole.{call, closing, entry_numbers}
use Rattle.mid_ir.proofs.Layers.{layer}
use Rattle.mid_ir.proofs.RunLaws.{run_Loop, run_Store}
use Rattle.mid_ir.proofs.CostLaws.{cost_Seq, cost_Call, cost_Set, cost_Return, count_Seq, count_Call, count_Set, count_Return}

-- an activation whose calls give 5 in all, and in which a loop may take three turns
abbrev site : Site
site = record { calls = λ f args w. Gave 5 w; after = λ w. Gave 5 w; block = 0x30000010; turns = 3; caller = 1 }

-- a world with eight bytes of Non-secure RAM
abbrev world : World
world = record {
  turns = [];
  entries = 0;
  events = [];
  peak = 0;
  memory = record { ns_rom = []; ns_ram = 1 ∷ 1 ∷ 1 ∷ 1 ∷ 1 ∷ 1 ∷ 1 ∷ 1 ∷ []; secure_ram = [] };
  msp_ns = 0;
  psp_ns = 0;
}

-- A loop that nothing leaves is spent

nothing_is : run site (mid.Seq []) ≡ (λ vs w. Next vs w)
nothing_is = layer Action (run_step site) _ (Seq []) (mid.rolls-Seq [])

spent : run site (mid.Loop (mid.Seq [])) (first []) world ≡ Stops end.Spent world
spent = run_Loop site (mid.Seq []) (first []) world ∙ subst (λ f. loop f 3 (first []) world ≡ Stops end.Spent world) (sym nothing_is) refl

-- One that is left at its first turn, from inside of a block, isn't

leaves_is : run site (mid.Break 1) ≡ (λ vs w. Broke 1 vs w)
leaves_is = layer Action (run_step site) _ (Break 1) (mid.rolls-Break 1)

block_is : run site (mid.Block (mid.Break 1)) ≡ (λ vs w. caught (run site (mid.Break 1) vs w))
block_is = layer Action (run_step site) _ (Block (mid.Break 1)) (mid.rolls-Block (mid.Break 1))

left : run site (mid.Loop (mid.Block (mid.Break 1))) (first []) world ≡ Next (first []) world
left =
    run_Loop site (mid.Block (mid.Break 1)) (first []) world
    ∙ subst (λ f. loop f 3 (first []) world ≡ Next (first []) world) (sym block_is)
    (subst (λ f. loop (λ vs w. caught (f vs w)) 3 (first []) world ≡ Next (first []) world) (sym leaves_is) refl)

-- A store into Non-secure RAM leaves its bytes, and an event

abbrev pointed : World
pointed = emit_plain (c.Wrote 0x20000004 4 7) (record world { memory = record world.memory { ns_ram = 1 ∷ 1 ∷ 1 ∷ 1 ∷ 7 ∷ 0 ∷ 0 ∷ 0 ∷ [] } })

stored : run site (mid.Store 0 4 1) (first (0x20000004 ∷ 7 ∷ [])) world ≡ Next (first (0x20000004 ∷ 7 ∷ [])) pointed
unfolding write_access store put_word
stored = run_Store site 0 4 1 (first (0x20000004 ∷ 7 ∷ [])) world

-- A program of an entry, unsigned twice(unsigned short x) { return x + one(); }, and of a function one, which gives 1

abbrev twice_body : List MidStmt
twice_body = mid.Call 1 1 [] ∷ mid.Set 0 op.Add 0 1 ∷ mid.Return 0 ∷ []

abbrev one_body : List MidStmt
one_body = mid.Const 0 1 ∷ mid.Return 0 ∷ []

abbrev functions : List MidFn
functions =
    record { name = codes "twice"; unit = 0; entry = true; gives = true; narrow = 4 ∷ []; vars = 2; block = 0; body = mid.Seq twice_body }
    ∷ record { name = codes "one"; unit = 0; entry = false; gives = true; narrow = []; vars = 1; block = 0; body = mid.Seq one_body }
    ∷ []

return_is : (s : Site) → run s (mid.Return 0) ≡ run_step s (Return 0)
return_is s = layer Action (run_step s) _ (Return 0) (mid.rolls-Return 0)

abbrev twice_acts : Site → List Action
twice_acts s = run_step s (Call 1 1 []) ∷ run_step s (Set 0 op.Add 0 1) ∷ run_step s (Return 0) ∷ []

twice_is : (s : Site) → run s (mid.Seq twice_body) ≡ run_step s (Seq (twice_acts s))
twice_is s =
    layer Action (run_step s) _ (Seq twice_body) (mid.rolls-Seq twice_body)
    ∙ ap (λ f. run_step s (Seq (f ∷ run s (mid.Set 0 op.Add 0 1) ∷ run s (mid.Return 0) ∷ []))) (layer Action (run_step s) _ (Call 1 1 []) (mid.rolls-Call 1 1 []))
    ∙ ap (λ f. run_step s (Seq (run_step s (Call 1 1 []) ∷ f ∷ run s (mid.Return 0) ∷ []))) (layer Action (run_step s) _ (Set 0 op.Add 0 1) (mid.rolls-Set 0 op.Add 0 1))
    ∙ ap (λ f. run_step s (Seq (run_step s (Call 1 1 []) ∷ run_step s (Set 0 op.Add 0 1) ∷ f ∷ []))) (return_is s)

one_is : (s : Site) → run s (mid.Seq one_body) ≡ run_step s (Seq (run_step s (Const 0 1) ∷ run_step s (Return 0) ∷ []))
one_is s =
    layer Action (run_step s) _ (Seq one_body) (mid.rolls-Seq one_body)
    ∙ ap (λ f. run_step s (Seq (f ∷ run s (mid.Return 0) ∷ []))) (layer Action (run_step s) _ (Const 0 1) (mid.rolls-Const 0 1))
    ∙ ap (λ f. run_step s (Seq (run_step s (Const 0 1) ∷ f ∷ []))) (return_is s)

-- the function of this number, called where so many more functions may be active, and the active ones need load
abbrev calls : ℕ → ℕ → ℕ → ℕ → List ℕ → World → Outcome
calls deep load = call (λ a. None) functions 2 deep 0x30000000 load

abbrev inside : ℕ → ℕ → ℕ → Site
inside deep load caller = site_of (λ a. None) (entry_numbers 0 functions) (calls deep load) 0x30000000 2 caller

one_gives : (u : World) → calls 1 120 0 1 [] u ≡ Gave 1 (reach 236 u)
one_gives u = ap (λ f. closing true (f (first []) (reach 236 u))) (one_is (inside 0 236 0))

-- The entry's parameter is converted, and both functions need stack at once

twice_gives : calls 2 0 1 0 (0x12345 ∷ 8 ∷ []) world ≡ Gave 0x2346 (reach 236 world)
twice_gives =
    let s = inside 1 120 1 in
    ap (λ f. closing true (f (first (0x2345 ∷ [])) (reach 120 world))) (twice_is s)
    ∙ ap (λ o. closing true (then_do (from_call 1 (first (0x2345 ∷ [])) o) (do_all (run_step s (Set 0 op.Add 0 1) ∷ run_step s (Return 0) ∷ [])))) (one_gives (reach 120 world))

-- A function too many is spent

too_deep : calls 1 0 1 0 (3 ∷ []) world ≡ Over end.Spent (reach 120 world)
too_deep = ap (λ f. closing true (f (first (3 ∷ [])) (reach 120 world))) (twice_is (inside 0 120 1))

-- 64 for the call, and 40 for each of what follows it

costs : cost (mid.Seq twice_body) ≡ 144
costs =
    let a : cost (mid.Call 1 1 []) ≡ 64 = cost_Call 1 1 [] in
    let b : cost (mid.Set 0 op.Add 0 1) ≡ 40 = cost_Set 0 op.Add 0 1 in
    let d : cost (mid.Return 0) ≡ 40 = cost_Return 0 in
    cost_Seq twice_body ∙ (omega (arith, a, b, d))

counts : count (mid.Seq twice_body) ≡ 4
counts =
    let a : count (mid.Call 1 1 []) ≡ 1 = count_Call 1 1 [] in
    let b : count (mid.Set 0 op.Add 0 1) ≡ 1 = count_Set 0 op.Add 0 1 in
    let d : count (mid.Return 0) ≡ 1 = count_Return 0 in
    count_Seq twice_body ∙ (omega (arith, a, b, d))
