-- What a step of Secure code leaves of Non-secure RAM, and who runs after it.
use Rattle.std.proofs.Common.{◌≡◌, ℕ, ◌+◌, ◌-◌, ◌%◌, Bool, true, false, cond, List, [], ◌∷◌, refl, ap, ◌∙◌, Option, Some, None}
use Rattle.std.specs.Prelude.{eqb, not, ◌&&◌}
use Rattle.cm_base.specs.declared.stop.Stop.{Stop}
use Rattle.cm_base.specs.declared.stop.Stop.TheVariants as stop
use Rattle.v8m_isa.specs.Decoding.{Decoded, decode_of, is_narrow}
use Rattle.ns_types.specs.declared.goes.Goes.{Goes}
use Rattle.ns_types.specs.declared.goes.Goes.TheVariants as goes
use Rattle.ns_types.specs.declared.state.Cpu.{Cpu}
use Rattle.ns_types.specs.declared.state.Regs.{Regs}
use Rattle.ns_types.specs.declared.state.Side.TheVariants.{Secure, NonSecure, Stopped}
use Rattle.ns_types.specs.declared.turn.View.{View}
use Rattle.ns_types.specs.State.{Device, get_of, Memory, State}
use Rattle.ns_types.specs.Platform.{row, in_row, is_in_rom, aligned}
use Rattle.ns_types.specs.Memory.{put_number, store}
use Rattle.ns_types.specs.Boundary.{function_return}
use Rattle.v8m_core.specs.declared.stepped.Stepped.{Stepped}
use Rattle.v8m_core.specs.declared.stepped.Stepped.TheVariants as what
use Rattle.v8m_core.specs.declared.effect.Effect.{Effect}
use Rattle.v8m_core.specs.declared.effect.Effect.TheVariants as effect
use Rattle.ns_types.specs.Operators.{subtract}
use Rattle.v8m_core.specs.Lists.{registers, in_list, next, all_stored}
use Rattle.ns_types.specs.Gateway.{fetched}
use Rattle.v8m_core.specs.Step.{Done, went, stopped, or_stopped, goes_in, seen, arrived, return_stop, return_to, bx, bxns, limit_stop, link, call_stop, called, only_stopped_by, blxns, effect_of, put, write_register, load_stop, store_stop, pushed_sp, push_stop, pop_stop, pushed, popped, apply, act_or, step_of}
use Rattle.ns_turns.specs.Tells.{is_write, Tells, none_in_ram, stacks_outside, outside_or, instr_at, StacksOutside}

-- after a step from s to t
abbrev pub Leads : Stepped → State → State → Type 0
Leads what.Went s t = Unit {0}
Leads (what.Wrote a n v) s t = (t.cpu.side ≡ Secure) × (t.memory.ns_ram ≡ put_number n s.memory.ns_ram (a - (row 1).from) v)
Leads (what.Given view) s t = t.cpu.side ≡ NonSecure
Leads (what.Stopped x) s t = t.cpu.side ≡ Stopped x

-- where the instruction stacks no word in Non-secure RAM, no other event than a write changes it
pub record Told (outside : Bool) (s : State) (d : Done) : Type 0 where
  pub leads : Leads d.what s d.state
  pub stays : outside ≡ true → is_write d.what ≡ false → d.state.memory.ns_ram ≡ s.memory.ns_ram

told_pick : (x b c : Bool) (s : State) (d e : Done) → Told b s d → Told c s e → Told (cond x b c) s (cond x d e)
told_pick true b c s d e p q = p
told_pick false b c s d e p q = q

module _ (b : Bool) (s : State) where
  abbrev Keeps : State → Type 0
  Keeps t = b ≡ true → t.memory.ns_ram ≡ s.memory.ns_ram

  told_stopped : (x : Stop) (t : State) → Keeps t → Told b s (stopped x t)
  told_stopped x t same = record { leads = refl; stays = λ o e. same o }

  told_went : (t : State) → Keeps t → Told b s (went t)
  told_went t same = record { leads = tt; stays = λ o e. same o }

  told_or_stopped : (o : Option Stop) (t : State) (d : Done) → Keeps t → Told b s d → Told b s (or_stopped o t d)
  told_or_stopped None t d same h = h
  told_or_stopped (Some x) t d same h = told_stopped x t same

  told_cond : (x : Bool) (d e : Done) → Told b s d → Told b s e → Told b s (cond x d e)
  told_cond true d e p q = p
  told_cond false d e p q = q

  told_return : (device : Device) (t : State) → Keeps t → Told b s (return_to device t)
  unfolding return_to
  told_return device t same = told_or_stopped (return_stop device t) t _ same (told_went _ same)

  told_arrived : (device : Device) (g : Goes) (a : ℕ) (view : View) (t : State) → Keeps t → Told b s (arrived device g a (what.Given view) t)
  told_arrived device (goes.Enter e) a view t same = told_went _ same
  told_arrived device goes.Return a view t same = told_return device t same
  told_arrived device goes.Turn a view t same = record { leads = refl; stays = λ o e. same o }
  told_arrived device goes.EntryPoint a view t same = told_stopped stop.EntryPoint t same
  told_arrived device goes.Astray a view t same = told_stopped stop.Astray t same

  told_only : (w : Stepped) (d : Done) → Told b s d → Told b s (only_stopped_by w s d)
  told_only what.Went d h = h
  told_only (what.Wrote a n v) d h = h
  told_only (what.Given view) d h = h
  told_only (what.Stopped x) d h = told_stopped x s (λ o. refl)

  told_stored : (x : Bool) (t u : State) (a n v : ℕ) → t.cpu.side ≡ Secure → t.memory.ns_ram ≡ put_number n s.memory.ns_ram (a - (row 1).from) v → u.memory.ns_ram ≡ s.memory.ns_ram → Told b s (record { state = record t { memory = cond x t.memory u.memory }; what = cond x (what.Wrote a n v) what.Went })
  told_stored true t u a n v side wrote same = record { leads = (side, wrote); stays = λ o e. cc }
  told_stored false t u a n v side wrote same = record { leads = tt; stays = λ o e. same }

  told_bxns : (device : Device) (v : ℕ) → Told b s (bxns device v s)
  unfolding bxns
  told_bxns device v =
      told_cond (eqb (aligned 2 v) function_return) _ _ (told_return device s (λ o. refl))
      (told_cond (eqb (v % 2) 0) _ _ (told_arrived device (goes_in device v) v (seen s.cpu v) s (λ o. refl))
      (told_cond (is_in_rom (v - 1)) _ _ (told_went (record s { cpu = record s.cpu { pc = v - 1 } }) (λ o. refl)) (told_stopped stop.BadState s (λ o. refl))))

  told_bx : (device : Device) (v : ℕ) → Told b s (bx device v s)
  unfolding bx
  told_bx device v =
      told_cond (eqb (aligned 2 v) function_return) _ _ (told_return device s (λ o. refl))
      (told_cond (not (eqb (v % 2) 0) && is_in_rom (v - 1)) _ _ (told_went (record s { cpu = record s.cpu { pc = v - 1 } }) (λ o. refl)) (told_stopped stop.BadState s (λ o. refl)))

-- words that are stacked outside

not_in : (x : Bool) → not x ≡ true → x ≡ false
not_in true h = cc
not_in false h = refl

and_parts : (x y : Bool) → (x && y) ≡ true → (x ≡ true) × (y ≡ true)
and_parts true y h = (refl, h)
and_parts false y h = cc

store_outside : (n a v : ℕ) (m : Memory) → not (in_row 1 a) ≡ true → (store n a v m).ns_ram ≡ m.ns_ram
unfolding store
store_outside n a v m h =
    ap (λ x. (cond x (record m { ns_ram = put_number n m.ns_ram (a - (row 1).from) v }) (record m { secure_ram = put_number n m.secure_ram (a - (row 4).from) v })).ns_ram) (not_in (in_row 1 a) h)

all_outside : (list : ℕ) (ns : List ℕ) (r : Regs) (a : ℕ) (m : Memory) → none_in_ram list ns a ≡ true → (all_stored list ns r a m).ns_ram ≡ m.ns_ram
unfolding all_stored
all_outside list [] r a m h = refl
all_outside list (n ∷ ns) r a m h = by (in_list list n) (all_outside list ns r) h
  where
    by : (x : Bool) → ((a : ℕ) (m : Memory) → none_in_ram list ns a ≡ true → (all_stored list ns r a m).ns_ram ≡ m.ns_ram) → cond x (not (in_row 1 a) && none_in_ram list ns (next a)) (none_in_ram list ns a) ≡ true → (cond x (all_stored list ns r (next a) (store 4 a (get_of r n) m)) (all_stored list ns r a m)).ns_ram ≡ m.ns_ram
    by true rest q = let p = and_parts (not (in_row 1 a)) (none_in_ram list ns (next a)) q in rest (next a) (store 4 a (get_of r n) m) p.1 ∙ store_outside 4 a (get_of r n) m p.0
    by false rest q = rest a m q

told_blxns : (device : Device) (v size : ℕ) (s : State) → Told (stacks_outside (effect.Blxns v) s.cpu) s (blxns device v size s)
unfolding blxns
told_blxns device v size s =
    let sp = subtract s.cpu.regs.sp 8 in
    let b = not (in_row 1 sp) && not (in_row 1 (next sp)) in
    let t = called (link size s.cpu) s in
    let same : Keeps b s t = λ o. let p = and_parts (not (in_row 1 sp)) (not (in_row 1 (next sp))) o in store_outside 4 (next sp) 0 (store 4 sp (link size s.cpu) s.memory) p.1 ∙ store_outside 4 sp (link size s.cpu) s.memory p.0 in
    told_pick (eqb (v % 2) 0) b true s _ _
    (told_or_stopped b s (call_stop s.cpu) s _ (λ o. refl) (told_only b s _ _ (told_arrived b s device (goes_in device v) v (seen t.cpu v) t same)))
    (told_cond true s (is_in_rom (v - 1)) _ _ (told_went true s (record s { cpu = record s.cpu { regs = record s.cpu.regs { lr = link size s.cpu }; pc = v - 1 } }) (λ o. refl)) (told_stopped true s stop.BadState s (λ o. refl)))

pub told_apply : (device : Device) (e : Effect) (size : ℕ) (s : State) → s.cpu.side ≡ Secure → Told (stacks_outside e s.cpu) s (apply device e size s)
unfolding apply write_register store pushed popped
told_apply device effect.Pass size s h = told_went true s _ (λ o. refl)
told_apply device (effect.Stop x) size s h = told_stopped true s x s (λ o. refl)
told_apply device (effect.Put d v) size s h =
    told_cond true s (eqb d 13) _ _ (told_or_stopped true s (limit_stop v s.cpu) s _ (λ o. refl) (told_went true s (put size 13 (aligned 4 v) s) (λ o. refl))) (told_went true s (put size d v s) (λ o. refl))
told_apply device (effect.Load t a n) size s h = told_or_stopped true s (load_stop a n) s _ (λ o. refl) (told_went true s _ (λ o. refl))
told_apply device (effect.LoadSigned t a n) size s h = told_or_stopped true s (load_stop a n) s _ (λ o. refl) (told_went true s _ (λ o. refl))
told_apply device (effect.Store a n v) size s h =
    let m = s.memory in
    let next = record s.cpu { pc = s.cpu.pc + size } in
    let seen_there : State = record { cpu = next; memory = record m { ns_ram = put_number n m.ns_ram (a - (row 1).from) v } } in
    let unseen : State = record { cpu = next; memory = record m { secure_ram = put_number n m.secure_ram (a - (row 4).from) v } } in
    told_or_stopped true s (store_stop a n) s _ (λ o. refl) (told_stored true s (in_row 1 a) seen_there unseen a n v h refl refl)
told_apply device (effect.Push list) size s h =
    told_or_stopped _ s (push_stop list s.cpu) s _ (λ o. refl) (told_went _ s _ (λ o. all_outside list registers s.cpu.regs (pushed_sp list s.cpu) s.memory o))
told_apply device (effect.Pop list) size s h = told_or_stopped true s (pop_stop list s.cpu) s _ (λ o. refl) (told_went true s _ (λ o. refl))
told_apply device (effect.Flags flags) size s h = told_went true s _ (λ o. refl)
told_apply device (effect.Jump a) size s h = told_went true s _ (λ o. refl)
told_apply device (effect.Call a) size s h = told_went true s _ (λ o. refl)
told_apply device (effect.Special k v) size s h = told_went true s _ (λ o. refl)
told_apply device (effect.Bx v) size s h = told_bx true s device v
told_apply device (effect.Bxns v) size s h = told_bxns true s device v
told_apply device (effect.Blxns v) size s h = told_blxns device v size s

told_act : (device : Device) (o : Option Decoded) (s : State) → s.cpu.side ≡ Secure → Told (outside_or o s.cpu) s (act_or device o s)
told_act device None s h = told_stopped true s stop.Undefined s (λ o. refl)
told_act device (Some d) s h = told_apply device (effect_of d.instr s.cpu) d.size s h

told_fetched : (x y : Bool) (p q : Option Decoded) (c : Cpu) (s : State) (d e : Done) → Told (outside_or p c) s d → Told (outside_or q c) s e → Told (outside_or (cond x p q) c) s (cond x d (cond y e (stopped stop.BadState s)))
told_fetched true y p q c s d e h k = h
told_fetched false true p q c s d e h k = k
told_fetched false false p q c s d e h k = told_stopped (outside_or q c) s stop.BadState s (λ o. refl)

pub told : (device : Device) (s : State) → s.cpu.side ≡ Secure → Told (outside_or (instr_at device s) s.cpu) s (step_of device s)
unfolding step_of
told device s h =
    let pc = s.cpu.pc in
    told_cond (outside_or (instr_at device s) s.cpu) s (is_in_rom pc) _ _
    (told_fetched (is_narrow (fetched device pc)) (is_in_rom (pc + 2)) (decode_of (fetched device pc) 0) (decode_of (fetched device pc) (fetched device (pc + 2))) s.cpu s _ _
    (told_act device (decode_of (fetched device pc) 0) s h)
    (told_act device (decode_of (fetched device pc) (fetched device (pc + 2))) s h))
    (told_stopped (outside_or (instr_at device s) s.cpu) s stop.BadState s (λ o. refl))

pub tells : (device : Device) (s : State) → s.cpu.side ≡ Secure → StacksOutside device s → Tells device s
tells device s h outside = (told device s h).stays outside
