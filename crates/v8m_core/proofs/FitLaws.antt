-- Each number of a state fits where it stands, at reset and after each step and turn.
use Rattle.std.proofs.Common.{◌≡◌, ℕ, zero, suc, ◌+◌, ◌-◌, ◌%◌, ◌<◌, ◌≤◌, Bool, true, false, cond, List, [], ◌∷◌, length, Option, Some, None, refl, sym, ◌∙◌, ⊎_elim, arith}
use Rattle.std.specs.Prelude.{eqb, ltb, leb, not, ◌&&◌, ◌||◌, slice_index}
use Rattle.std.proofs.lemmas.List.{length-set}
use Rattle.std.proofs.lemmas.Bool.{ltb-true, leb-true}
use Rattle.cm_base.specs.declared.stop.Stop.{Stop}
use Rattle.cm_base.specs.declared.stop.Stop.TheVariants as stop
use Rattle.cm_base.specs.declared.regions.TheConstants.{NSC}
use Rattle.v8m_isa.specs.Table.{size_of}
use Rattle.v8m_isa.specs.Decoding.{Decoded, decode_of, is_narrow}
use Rattle.v8m_isa.proofs.DecodingLaws.{code_of-decode_of, size-decode_of, size_of_two_or_four}
use Rattle.ns_types.specs.declared.goes.Goes.{Goes}
use Rattle.ns_types.specs.declared.goes.Goes.TheVariants as goes
use Rattle.ns_types.specs.declared.state.Regs.{Regs}
use Rattle.ns_types.specs.declared.state.Cpu.{Cpu}
use Rattle.ns_types.specs.declared.state.Side.{Side}
use Rattle.ns_types.specs.declared.state.Side.TheVariants.{Secure, NonSecure, Stopped}
use Rattle.ns_types.specs.declared.turn.Item.{Item}
use Rattle.ns_types.specs.declared.turn.Item.TheVariants.{Write, Read}
use Rattle.ns_types.specs.declared.turn.Start.{Start}
use Rattle.ns_types.specs.State.{Device, Memory, State, get_of, set_of}
use Rattle.ns_types.specs.Platform.{row, in_row, lies_in, is_readable, is_secure, is_nonsecure, is_in_rom, aligned}
use Rattle.ns_types.specs.Memory.{byte_at, half_at, word_at, number_at, load, store, IsWhole, IsStart}
use Rattle.ns_types.specs.Gateway.{fetched, is_gateway}
use Rattle.ns_types.specs.Boundary.{function_return, goes_or, goes_of, item_stop, with_item, Acted, acted_or, acted}
use Rattle.ns_types.specs.Operators.{subtract, to_signed}
use Rattle.ns_types.specs.Turns.{Turn, IsTurn, IsWord, AreWords}
use Rattle.v8m_core.specs.declared.stepped.Stepped.{Stepped}
use Rattle.v8m_core.specs.declared.stepped.Stepped.TheVariants as what
use Rattle.v8m_core.specs.declared.effect.Effect.{Effect}
use Rattle.v8m_core.specs.declared.effect.Effect.TheVariants as effect
use Rattle.v8m_core.specs.Lists.{registers, next, in_list, all_stored, all_loaded}
use Rattle.v8m_core.specs.Step.{Done, went, stopped, or_stopped, goes_in, seen, returned, return_stop, return_to, arrived, bx, bxns, limit_stop, link, call_stop, called, called_at, only_stopped_by, blxns, effect_of, pass, put, write_register, load_stop, store_stop, stored, pushed_sp, popped_sp, push_stop, pop_stop, pushed, popped, special, apply, act_or, step_of, set_by, with_turn, turn_of}
use Rattle.v8m_core.specs.Reset.{reset_of}
use Rattle.v8m_core.specs.Fits.{RegsFit, CpuFits, Fits}
use Rattle.v8m_core.proofs.GateLaws.{word_at_lt}
use Rattle.v8m_core.proofs.Ram.{whole_cond, whole_store}
use Rattle.v8m_core.proofs.FitValues.{cond_lt, wrapped_lt, minus_lt, to_signed_lt, set_fits, IsBounded, effect_bounded}

aligned_lt : (n a : ℕ) → IsWord a → IsWord (aligned n a)
aligned_lt n a h = minus_lt a (a % n) h

-- Memory

byte_at_lt : (bytes : List ℕ) (o : ℕ) → IsWord (byte_at bytes o)
unfolding byte_at
byte_at_lt bytes o = omega arith

half_at_lt : (bytes : List ℕ) (o : ℕ) → half_at bytes o < 65536
unfolding half_at
half_at_lt bytes o = omega arith

number_at_lt : (size : ℕ) (bytes : List ℕ) (o : ℕ) → IsWord (number_at size bytes o)
number_at_lt size bytes o = cond_lt (eqb size 4) _ _ (word_at_lt bytes o) (cond_lt (eqb size 2) _ _ (let lt = half_at_lt bytes o in omega arith) (byte_at_lt bytes o))

load_lt : (size a : ℕ) (device : Device) (m : Memory) → IsWord (load size a device m)
unfolding load
load_lt size a device m =
    cond_lt (in_row 4 a || in_row 5 a) _ _ (number_at_lt size m.secure_ram (a - (row 4).from))
    (cond_lt (in_row 1 a) _ _ (number_at_lt size m.ns_ram (a - (row 1).from))
    (cond_lt (in_row 0 a) _ _ (number_at_lt size m.ns_rom (a - (row 0).from)) (number_at_lt size device.rom (a - (row 2).from))))

all_stored_whole : (list : ℕ) (ns : List ℕ) (r : Regs) (a : ℕ) (m : Memory) → IsWhole m → IsWhole (all_stored list ns r a m)
unfolding all_stored
all_stored_whole list [] r a m h = h
all_stored_whole list (n ∷ ns) r a m h =
    whole_cond (in_list list n) _ _ (all_stored_whole list ns r (next a) (store 4 a (get_of r n) m) (whole_store 4 a (get_of r n) m h)) (all_stored_whole list ns r a m h)

regs_cond : (b : Bool) (x y : Regs) → RegsFit x → RegsFit y → RegsFit (cond b x y)
regs_cond true x y p q = p
regs_cond false x y p q = q

all_loaded_fit : (list : ℕ) (ns : List ℕ) (device : Device) (m : Memory) (a : ℕ) (r : Regs) → RegsFit r → RegsFit (all_loaded list ns device m a r)
unfolding all_loaded
all_loaded_fit list [] device m a r h = h
all_loaded_fit list (n ∷ ns) device m a r h =
    regs_cond (in_list list n) _ _ (all_loaded_fit list ns device m (next a) (set_of r n (load 4 a device m)) (set_fits r n (load 4 a device m) h (load_lt 4 a device m))) (all_loaded_fit list ns device m a r h)

-- Addresses

right_of : (a b : Bool) → (a && b) ≡ true → b ≡ true
right_of true b h = h
right_of false b h = cc

left_of : (a b : Bool) → (a && b) ≡ true → a ≡ true
left_of true b h = refl
left_of false b h = cc

either : (a b : Bool) (n : ℕ) → (a ≡ true → IsWord n) → (b ≡ true → IsWord n) → (a || b) ≡ true → IsWord n
either true b n p q h = p refl
either false b n p q h = q h

-- the end of bytes that lie in a row
end_lt : (b : Bool) (a to : ℕ) → to < 4294967296 → (b && leb a to) ≡ true → IsWord a
end_lt b a to lt h = let le : a ≤ to = leb-true a to (right_of b (leb a to) h) in omega arith

lies_lt : (k a : ℕ) → (row k).to < 4294967296 → lies_in k a 4 ≡ true → IsWord (a + 4)
lies_lt k a lt h = end_lt (leb (row k).from a) (a + 4) (row k).to lt h

readable_lt : (a : ℕ) → is_readable a 4 ≡ true → IsWord (a + 4)
unfolding is_readable
readable_lt a =
    either (lies_in 0 a 4) (lies_in 1 a 4 || (lies_in 2 a 4 || (lies_in 3 a 4 || (lies_in 4 a 4 || lies_in 5 a 4)))) (a + 4) (lies_lt 0 a (omega arith))
    (either (lies_in 1 a 4) (lies_in 2 a 4 || (lies_in 3 a 4 || (lies_in 4 a 4 || lies_in 5 a 4))) (a + 4) (lies_lt 1 a (omega arith))
    (either (lies_in 2 a 4) (lies_in 3 a 4 || (lies_in 4 a 4 || lies_in 5 a 4)) (a + 4) (lies_lt 2 a (omega arith))
    (either (lies_in 3 a 4) (lies_in 4 a 4 || lies_in 5 a 4) (a + 4) (lies_lt 3 a (omega arith))
    (either (lies_in 4 a 4) (lies_in 5 a 4) (a + 4) (lies_lt 4 a (omega arith)) (lies_lt 5 a (omega arith))))))

in_rom_lt : (a : ℕ) → is_in_rom a ≡ true → a < NSC.to
in_rom_lt a h = ltb-true a NSC.to (right_of _ (ltb a NSC.to) h)

-- What steps leave

-- the side, the registers, the program counter and memory are replaced
placed : (s : State) (side : Side) (regs : Regs) (pc : ℕ) (m : Memory) → Fits s → RegsFit regs → IsWord pc → IsWhole m → Fits (record { cpu = record s.cpu { side = side; regs = regs; pc = pc }; memory = m })
placed s side regs pc m h r p w = record {
  cpu = record { regs = r; pc = p; nzcvq = h.cpu.nzcvq; psp = h.cpu.psp; msplim = h.cpu.msplim; psplim = h.cpu.psplim; msp_ns = h.cpu.msp_ns; psp_ns = h.cpu.psp_ns };
  memory = w;
}

pub record Leaves (d : Done) : Type 0 where
  pub by : Fits d.state

fits_went : (s : State) → Fits s → Leaves (went s)
fits_went s h = record { by = h }

fits_at : (s : State) (pc : ℕ) → Fits s → IsWord pc → Leaves (went (record s { cpu = record s.cpu { pc = pc } }))
fits_at s pc h p = record { by = placed s s.cpu.side s.cpu.regs pc s.memory h h.cpu.regs p h.memory }

fits_stopped : (x : Stop) (s : State) → Fits s → Leaves (stopped x s)
fits_stopped x s h = record { by = placed s (Stopped x) s.cpu.regs s.cpu.pc s.memory h h.cpu.regs h.cpu.pc h.memory }

fits_if : (o : Option Stop) (s : State) (d : Done) → Fits s → (o ≡ None → Leaves d) → Leaves (or_stopped o s d)
fits_if None s d h k = k refl
fits_if (Some x) s d h k = fits_stopped x s h

fits_or : (o : Option Stop) (s : State) (d : Done) → Fits s → Leaves d → Leaves (or_stopped o s d)
fits_or o s d h k = fits_if o s d h (λ e. k)

fits_cond : (b : Bool) (d e : Done) → Leaves d → Leaves e → Leaves (cond b d e)
fits_cond true d e x y = x
fits_cond false d e x y = y

fits_where : (b : Bool) (d e : Done) → (b ≡ true → Leaves d) → Leaves e → Leaves (cond b d e)
fits_where true d e x y = x refl
fits_where false d e x y = y

-- The gates

second_word : (b0 b1 b2 : Bool) (o : Option Stop) → cond (not b0) (Some stop.BadState) (cond (not (b1 && b2)) (Some stop.Unmapped) o) ≡ None → b2 ≡ true
second_word true true true o h = refl
second_word true true false o h = cc
second_word true false b2 o h = cc
second_word false b1 b2 o h = cc

return_room : (device : Device) (s : State) → return_stop device s ≡ None → IsWord (s.cpu.regs.sp + 8)
unfolding return_stop
return_room device s e =
    let sp = s.cpu.regs.sp in
    let second : is_readable (sp + 4) 4 ≡ true = second_word _ (is_readable sp 4) _ _ e in
    let lt : IsWord (sp + 4 + 4) = readable_lt (sp + 4) second in
    omega arith

fits_return : (device : Device) (s : State) → Fits s → Leaves (return_to device s)
unfolding return_to
fits_return device s h =
    let sp = s.cpu.regs.sp in
    let a = aligned 2 (load 4 sp device s.memory) in
    fits_if (return_stop device s) s (went (returned a s)) h
    (λ e. record { by = placed s Secure (record s.cpu.regs { sp = sp + 8 }) a s.memory h (set_fits s.cpu.regs 13 (sp + 8) h.cpu.regs (return_room device s e)) (aligned_lt 2 _ (load_lt 4 sp device s.memory)) h.memory })

abbrev IsPlace : Goes → Type 0
IsPlace (goes.Enter e) = IsWord (e + 4)
IsPlace _ = Unit {0}

-- code stands behind the gateway that a branch enters
record EntersInRange (g : Goes) : Type 0 where
  by : IsPlace g

enters_cond : (b : Bool) (g k : Goes) → EntersInRange g → EntersInRange k → EntersInRange (cond b g k)
enters_cond true g k x y = x
enters_cond false g k x y = y

gateway_enters : (device : Device) (a : ℕ) (b : Bool) → is_gateway device a ≡ b → EntersInRange (goes_or (cond b (Some a) None) a)
unfolding is_gateway
gateway_enters device a true e = record { by = lies_lt 3 a (omega arith) (left_of (lies_in 3 a 4) _ e) }
gateway_enters device a false e =
    enters_cond (eqb a function_return) _ _ (record { by = tt })
    (enters_cond (is_nonsecure a) _ _ (record { by = tt }) (enters_cond (is_secure a) _ _ (record { by = tt }) (record { by = tt })))

goes_enters : (device : Device) (t : ℕ) → EntersInRange (goes_in device t)
unfolding goes_in goes_of
goes_enters device t = gateway_enters device (aligned 2 t) _ refl

fits_arrived : (device : Device) (g : Goes) (a : ℕ) (show : Stepped) (s : State) → Fits s → EntersInRange g → IsWord a → Leaves (arrived device g a show s)
fits_arrived device (goes.Enter e) a show s h k p =
    record { by = placed s Secure (record s.cpu.regs { lr = aligned 2 s.cpu.regs.lr }) (e + 4) s.memory h (set_fits s.cpu.regs 14 _ h.cpu.regs (aligned_lt 2 _ h.cpu.regs.lr)) k.by h.memory }
fits_arrived device goes.Return a show s h k p = fits_return device s h
fits_arrived device goes.Turn a show s h k p = record { by = placed s NonSecure s.cpu.regs a s.memory h h.cpu.regs p h.memory }
fits_arrived device goes.EntryPoint a show s h k p = fits_stopped stop.EntryPoint s h
fits_arrived device goes.Astray a show s h k p = fits_stopped stop.Astray s h

fits_bxns : (device : Device) (v : ℕ) (s : State) → Fits s → IsWord v → Leaves (bxns device v s)
unfolding bxns
fits_bxns device v s h p =
    fits_cond (eqb (aligned 2 v) function_return) _ _ (fits_return device s h)
    (fits_cond (eqb (v % 2) 0) _ _ (fits_arrived device (goes_in device v) v (what.Given (seen s.cpu v)) s h (goes_enters device v) p)
    (fits_cond (is_in_rom (v - 1)) _ _ (fits_at s (v - 1) h (minus_lt v 1 p)) (fits_stopped stop.BadState s h)))

fits_bx : (device : Device) (v : ℕ) (s : State) → Fits s → IsWord v → Leaves (bx device v s)
unfolding bx
fits_bx device v s h p =
    fits_cond (eqb (aligned 2 v) function_return) _ _ (fits_return device s h)
    (fits_cond (not (eqb (v % 2) 0) && is_in_rom (v - 1)) _ _ (fits_at s (v - 1) h (minus_lt v 1 p)) (fits_stopped stop.BadState s h))

fits_only : (w : Stepped) (s : State) (d : Done) → Fits s → Leaves d → Leaves (only_stopped_by w s d)
fits_only what.Went s d h k = k
fits_only (what.Wrote at size value) s d h k = k
fits_only (what.Given view) s d h k = k
fits_only (what.Stopped x) s d h k = fits_stopped x s h

link_lt : (size : ℕ) (c : Cpu) → c.pc + size < 4294967295 → IsWord (link size c)
link_lt size c h = omega arith

fits_called : (back : ℕ) (s : State) → Fits s → Fits (called back s)
fits_called back s h =
    let sp = subtract s.cpu.regs.sp 8 in
    placed s s.cpu.side (record s.cpu.regs { sp = sp; lr = function_return + 1 }) s.cpu.pc (store 4 (next sp) 0 (store 4 sp back s.memory)) h
    (set_fits (set_of s.cpu.regs 13 sp) 14 (function_return + 1) (set_fits s.cpu.regs 13 sp h.cpu.regs (wrapped_lt _)) (omega arith)) h.cpu.pc
    (whole_store 4 (next sp) 0 (store 4 sp back s.memory) (whole_store 4 sp back s.memory h.memory))

fits_blxns : (device : Device) (v size : ℕ) (s : State) → Fits s → IsWord v → s.cpu.pc + size < 4294967295 → Leaves (blxns device v size s)
unfolding blxns
fits_blxns device v size s h p room =
    let back = link size s.cpu in
    let t = called back s in
    fits_cond (eqb (v % 2) 0) _ _
    (fits_or (call_stop s.cpu) s _ h
    (fits_only _ s (called_at device v t) h (fits_arrived device (goes_in device v) v (what.Given (seen t.cpu v)) t (fits_called back s h) (goes_enters device v) p)))
    (fits_cond (is_in_rom (v - 1)) _ _
    (record { by = placed s s.cpu.side (record s.cpu.regs { lr = back }) (v - 1) s.memory h (set_fits s.cpu.regs 14 back h.cpu.regs (link_lt size s.cpu room)) (minus_lt v 1 p) h.memory })
    (fits_stopped stop.BadState s h))

-- Effects

fits_put : (size d v : ℕ) (s : State) → Fits s → s.cpu.pc + size < 4294967295 → IsWord v → Fits (put size d v s)
fits_put size d v s h room p = placed s s.cpu.side (set_of s.cpu.regs d v) (s.cpu.pc + size) s.memory h (set_fits s.cpu.regs d v h.cpu.regs p) (omega arith) h.memory

fits_pass : (size : ℕ) (s : State) → Fits s → s.cpu.pc + size < 4294967295 → Fits (pass size s)
fits_pass size s h room = placed s s.cpu.side s.cpu.regs (s.cpu.pc + size) s.memory h h.cpu.regs (omega arith) h.memory

fits_write_register : (size d v : ℕ) (s : State) → Fits s → s.cpu.pc + size < 4294967295 → IsWord v → Leaves (write_register size d v s)
unfolding write_register
fits_write_register size d v s h room p =
    fits_cond (eqb d 13) _ _ (fits_or (limit_stop v s.cpu) s _ h (fits_went _ (fits_put size 13 (aligned 4 v) s h room (aligned_lt 4 v p)))) (fits_went _ (fits_put size d v s h room p))

fits_stored : (step a size v : ℕ) (s : State) → Fits s → s.cpu.pc + step < 4294967295 → Leaves (stored step a size v s)
fits_stored step a size v s h room =
    record { by = placed s s.cpu.side s.cpu.regs (s.cpu.pc + step) (store size a v s.memory) h h.cpu.regs (omega arith) (whole_store size a v s.memory h.memory) }

fits_pushed : (list size : ℕ) (s : State) → Fits s → s.cpu.pc + size < 4294967295 → Fits (pushed list size s)
unfolding pushed
fits_pushed list size s h room =
    let sp = pushed_sp list s.cpu in
    placed s s.cpu.side (record s.cpu.regs { sp = aligned 4 sp }) (s.cpu.pc + size) (all_stored list registers s.cpu.regs sp s.memory) h
    (set_fits s.cpu.regs 13 (aligned 4 sp) h.cpu.regs (aligned_lt 4 sp (wrapped_lt _))) (omega arith) (all_stored_whole list registers s.cpu.regs sp s.memory h.memory)

fits_popped : (device : Device) (list size : ℕ) (s : State) → Fits s → s.cpu.pc + size < 4294967295 → Fits (popped device list size s)
unfolding popped
fits_popped device list size s h room =
    let sp = popped_sp list s.cpu in
    let regs = all_loaded list registers device s.memory s.cpu.regs.sp s.cpu.regs in
    placed s s.cpu.side (record regs { sp = aligned 4 sp }) (s.cpu.pc + size) s.memory h
    (set_fits regs 13 (aligned 4 sp) (all_loaded_fit list registers device s.memory s.cpu.regs.sp s.cpu.regs h.cpu.regs) (aligned_lt 4 sp (wrapped_lt _))) (omega arith) h.memory

cpu_cond : (b : Bool) (x y : Cpu) → CpuFits x → CpuFits y → CpuFits (cond b x y)
cpu_cond true x y p q = p
cpu_cond false x y p q = q

fits_special : (k v : ℕ) (c : Cpu) → CpuFits c → IsWord v → CpuFits (special k v c)
fits_special k v c h p =
    cpu_cond (eqb k 0) _ _ (record { regs = h.regs; pc = h.pc; nzcvq = omega arith; psp = h.psp; msplim = h.msplim; psplim = h.psplim; msp_ns = h.msp_ns; psp_ns = h.psp_ns })
    (cpu_cond (eqb k 8) _ _ (record { regs = set_fits c.regs 13 (aligned 4 v) h.regs (aligned_lt 4 v p); pc = h.pc; nzcvq = h.nzcvq; psp = h.psp; msplim = h.msplim; psplim = h.psplim; msp_ns = h.msp_ns; psp_ns = h.psp_ns })
    (cpu_cond (eqb k 9) _ _ (record { regs = h.regs; pc = h.pc; nzcvq = h.nzcvq; psp = aligned_lt 4 v p; msplim = h.msplim; psplim = h.psplim; msp_ns = h.msp_ns; psp_ns = h.psp_ns })
    (cpu_cond (eqb k 10) _ _ (record { regs = h.regs; pc = h.pc; nzcvq = h.nzcvq; psp = h.psp; msplim = aligned_lt 8 v p; psplim = h.psplim; msp_ns = h.msp_ns; psp_ns = h.psp_ns })
    (cpu_cond (eqb k 11) _ _ (record { regs = h.regs; pc = h.pc; nzcvq = h.nzcvq; psp = h.psp; msplim = h.msplim; psplim = aligned_lt 8 v p; msp_ns = h.msp_ns; psp_ns = h.psp_ns })
    (cpu_cond (eqb k 136) _ _ (record { regs = h.regs; pc = h.pc; nzcvq = h.nzcvq; psp = h.psp; msplim = h.msplim; psplim = h.psplim; msp_ns = aligned_lt 4 v p; psp_ns = h.psp_ns }) (record { regs = h.regs; pc = h.pc; nzcvq = h.nzcvq; psp = h.psp; msplim = h.msplim; psplim = h.psplim; msp_ns = h.msp_ns; psp_ns = aligned_lt 4 v p }))))))

fits_apply : (device : Device) (e : Effect) (size : ℕ) (s : State) → Fits s → s.cpu.pc + size < 4294967295 → IsBounded e → Leaves (apply device e size s)
unfolding apply
fits_apply device effect.Pass size s h room b = fits_went _ (fits_pass size s h room)
fits_apply device (effect.Stop x) size s h room b = fits_stopped x s h
fits_apply device (effect.Put d v) size s h room b = fits_write_register size d v s h room b
fits_apply device (effect.Load t a n) size s h room b = fits_or (load_stop a n) s _ h (fits_went _ (fits_put size t (load n a device s.memory) s h room (load_lt n a device s.memory)))
fits_apply device (effect.LoadSigned t a n) size s h room b =
    fits_or (load_stop a n) s _ h (fits_went _ (fits_put size t (to_signed n (load n a device s.memory)) s h room (to_signed_lt n (load n a device s.memory) (load_lt n a device s.memory))))
fits_apply device (effect.Store a n v) size s h room b = fits_or (store_stop a n) s _ h (fits_stored size a n v s h room)
fits_apply device (effect.Push list) size s h room b = fits_or (push_stop list s.cpu) s _ h (fits_went _ (fits_pushed list size s h room))
fits_apply device (effect.Pop list) size s h room b = fits_or (pop_stop list s.cpu) s _ h (fits_went _ (fits_popped device list size s h room))
fits_apply device (effect.Flags flags) size s h room b =
    let q = (fits_pass size s h room).cpu in
    record { by = record { cpu = record { regs = q.regs; pc = q.pc; nzcvq = b; psp = q.psp; msplim = q.msplim; psplim = q.psplim; msp_ns = q.msp_ns; psp_ns = q.psp_ns }; memory = h.memory } }
fits_apply device (effect.Jump a) size s h room b = fits_at s a h b
fits_apply device (effect.Call a) size s h room b =
    record { by = placed s s.cpu.side (record s.cpu.regs { lr = link size s.cpu }) a s.memory h (set_fits s.cpu.regs 14 (link size s.cpu) h.cpu.regs (link_lt size s.cpu room)) b h.memory }
fits_apply device (effect.Special k v) size s h room b = record { by = record { cpu = fits_special k v (pass size s).cpu (fits_pass size s h room).cpu b; memory = h.memory } }
fits_apply device (effect.Bx v) size s h room b = fits_bx device v s h b
fits_apply device (effect.Bxns v) size s h room b = fits_bxns device v s h b
fits_apply device (effect.Blxns v) size s h room b = fits_blxns device v size s h b room

-- Steps

fits_act : (device : Device) (first second : ℕ) (o : Option Decoded) (s : State) → o ≡ decode_of first second → second < 65536 → Fits s → s.cpu.pc < NSC.to → Leaves (act_or device o s)
fits_act device first second None s e lt h in_rom = fits_stopped stop.Undefined s h
fits_act device first second (Some d) s e lt h in_rom =
    let range = (code_of-decode_of first second d lt (sym e)).in_range in
    let size : d.size ≡ size_of d.instr = size-decode_of first second d lt (sym e) in
    let few : size_of d.instr ≤ 4 = ⊎_elim (λ x. omega arith) (λ x. omega arith) (size_of_two_or_four d.instr) in
    let room : s.cpu.pc + d.size < 4294967295 = omega arith in
    fits_apply device (effect_of d.instr s.cpu) d.size s h room (effect_bounded d.instr s.cpu h.cpu range)

pub fits_step : (device : Device) (s : State) → Fits s → Leaves (step_of device s)
unfolding step_of
fits_step device s h =
    let pc = s.cpu.pc in
    fits_where (is_in_rom pc) _ _
    (λ e. fits_cond (is_narrow (fetched device pc)) _ _ (fits_act device (fetched device pc) 0 _ s refl (omega arith) h (in_rom_lt pc e))
    (fits_cond (is_in_rom (pc + 2)) _ _ (fits_act device (fetched device pc) (fetched device (pc + 2)) _ s refl (half_at_lt device.rom (pc + 2 - (row 2).from)) h (in_rom_lt pc e)) (fits_stopped stop.BadState s h)))
    (fits_stopped stop.BadState s h)

-- Turns

words_at : (l : List ℕ) (n : ℕ) → AreWords l → IsWord (slice_index l n)
words_at [] n h = omega arith
words_at (x ∷ xs) zero h = h.0
words_at (x ∷ xs) (suc n) h = words_at xs n h.1

length-with_item : (item : Item) (ram : List ℕ) → length (with_item item ram) ≡ length ram
length-with_item (Write at byte) ram = length-set ram (at - (row 1).from) byte
length-with_item (Read at) ram = refl

length-acted_or : (o : Option Stop) (ram : List ℕ) (rest : Acted) → length rest.ram ≡ length ram → length (acted_or o ram rest).ram ≡ length ram
length-acted_or None ram rest h = h
length-acted_or (Some x) ram rest h = refl

length-acted : (items : List Item) (ram : List ℕ) → length (acted items ram).ram ≡ length ram
length-acted [] ram = refl
length-acted (item ∷ items) ram = length-acted_or (item_stop item) ram (acted items (with_item item ram)) (length-acted items (with_item item ram) ∙ length-with_item item ram)

fits_set_by : (t : Turn) (c : Cpu) → IsTurn t → CpuFits c → CpuFits (set_by t c)
fits_set_by t c w h = record {
  regs = record { r0 = words_at t.r 0 w.r; r1 = words_at t.r 1 w.r; r2 = words_at t.r 2 w.r; r3 = words_at t.r 3 w.r; r4 = words_at t.r 4 w.r; r5 = words_at t.r 5 w.r; r6 = words_at t.r 6 w.r; r7 = words_at t.r 7 w.r; r8 = words_at t.r 8 w.r; r9 = words_at t.r 9 w.r; r10 = words_at t.r 10 w.r; r11 = words_at t.r 11 w.r; r12 = words_at t.r 12 w.r; sp = h.regs.sp; lr = w.lr };
  pc = h.pc;
  nzcvq = (let le = w.nzcvq in omega arith);
  psp = h.psp;
  msplim = h.msplim;
  psplim = h.psplim;
  msp_ns = aligned_lt 4 t.msp_ns w.msp_ns;
  psp_ns = aligned_lt 4 t.psp_ns w.psp_ns;
}

pub fits_turn : (device : Device) (t : Turn) (s : State) → IsTurn t → Fits s → Leaves (turn_of device t s)
unfolding turn_of
fits_turn device t s w h =
    let after = acted t.items s.memory.ns_ram in
    let u = with_turn t after.ram s in
    let q : Fits u = record {
      cpu = fits_set_by t s.cpu w h.cpu;
      memory = record { ns_rom = h.memory.ns_rom; ns_ram = length-acted t.items s.memory.ns_ram ∙ h.memory.ns_ram; secure_ram = h.memory.secure_ram };
    } in
    fits_or after.stop u _ q (fits_arrived device (goes_in device t.target) (aligned 2 t.target) what.Went u q (goes_enters device t.target) (aligned_lt 2 t.target w.target))

-- Reset

pub fits_reset : (device : Device) (start : Start) → IsStart start → Fits (reset_of device start)
fits_reset device start whole = record {
  cpu = record {
    regs = record { r0 = omega arith; r1 = omega arith; r2 = omega arith; r3 = omega arith; r4 = omega arith; r5 = omega arith; r6 = omega arith; r7 = omega arith; r8 = omega arith; r9 = omega arith; r10 = omega arith; r11 = omega arith; r12 = omega arith; sp = aligned_lt 4 (word_at device.rom 0) (word_at_lt device.rom 0); lr = omega arith };
    pc = aligned_lt 2 (word_at device.rom 4) (word_at_lt device.rom 4);
    nzcvq = omega arith;
    psp = omega arith;
    msplim = omega arith;
    psplim = omega arith;
    msp_ns = omega arith;
    psp_ns = omega arith;
  };
  memory = whole;
}
