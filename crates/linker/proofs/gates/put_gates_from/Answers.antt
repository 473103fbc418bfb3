use Rattle.std.proofs.Common.{◌≡◌, ℕ, ◌+◌, ◌-◌, ◌<◌, List, ◌++◌, suc, ap, sym, ◌∙◌, arith, append_assoc, flat_map}
use Rattle.veneer_link.specs.Assign.{places_from}
use Rattle.linker.specs.Passes.{gate_at}
use Rattle.linker.proofs.gates.put_gates_from.Goals as goal

-- one step of a loop over places
gates_step : (f : ℕ → List ℕ) (n i at : ℕ) (to new total : List ℕ) → i < n → to ++ flat_map f (places_from (n - i) at) ≡ total → new ≡ to ++ f at → new ++ flat_map f (places_from (n - (i + 1)) (at + 8)) ≡ total
gates_step f n i at to new total lt inv e =
    let rest = flat_map f (places_from (n - (i + 1)) (at + 8)) in
    let k : n - i ≡ suc (n - (i + 1)) = omega arith in
    let more : flat_map f (places_from (n - i) at) ≡ f at ++ rest = ap (λ m. flat_map f (places_from m at)) k in
    ap (λ b. b ++ rest) e ∙ (append_assoc to (f at) rest ∙ (ap (λ b. to ++ b) (sym more) ∙ inv))

pub loop-i-preserved : goal.loop-i-preserved
loop-i-preserved c = record {
  gates = gates_step (gate_at c.args.veneers.now c.args.names.now) c.args.n c.loop-i._i c.loop-i.at _ _ _ c.loop-i-test.true c.loop-i.invariant.gates c.in_ok-put_gate.ensures;
  at = omega (arith, c.loop-i.invariant.at);
}
