-- Runs behind the boundary at values that are known, with bodies of entries written by hand.
use Rattle.std.proofs.Common.{◌≡◌, ℕ, zero, suc, ◌+◌, refl, List, [], ◌∷◌, length, codes, Option, Some, None, Result, Ok, Err}
use Rattle.std.specs.Prelude.{slice_index}
use Rattle.cm_base.specs.declared.stop.Stop.{Stop}
use Rattle.cm_base.specs.declared.stop.Stop.TheVariants.{Access, Astray}
use Rattle.ns_types.specs.declared.goes.Goes.TheVariants as goes
use Rattle.ns_types.specs.declared.event.Event.{Event}
use Rattle.ns_types.specs.declared.event.Event.TheVariants as event
use Rattle.ns_types.specs.declared.event.CEvent.{CEvent}
use Rattle.ns_types.specs.declared.event.CEvent.TheVariants as c
use Rattle.ns_types.specs.declared.event.End.TheVariants as end
use Rattle.ns_types.specs.declared.event.Marked.{Marked}
use Rattle.ns_types.specs.declared.turn.Item.{Item}
use Rattle.ns_types.specs.declared.turn.Item.TheVariants.{Write, Read}
use Rattle.ns_types.specs.declared.turn.Start.{Start}
use Rattle.ns_types.specs.Turns.{Turn}
use Rattle.ns_types.specs.Memory.{memory_of, store, word_at, put_word}
use Rattle.ns_types.specs.Operators.{add}
use Rattle.ns_types.specs.Access.{Written, write_access}
use Rattle.ns_types.specs.Platform.{aligned}
use Rattle.ns_types.specs.Boundary.{goes_of, item_stop, eight_zeros}
use Rattle.ns_types.specs.CRun.{World, Outcome, Gave, Over, then_go, mark_at, emit, emit_plain, stop_with, reach, phase, c_run, Run, run_of}
use Rattle.ns_types.specs.Counters.{GoesOnTo, GoesOn, OnlyGoOn}
use Rattle.ns_types.proofs.CounterLaws.{stays, earlier, on_then, phase_goes_on}
use Rattle.ns_types.specs.Show.{show, events_shown}
use Rattle.ns_types.specs.Ram.{ram_at}
use Rattle.ns_types.specs.Declares.{Declares}
use Rattle.ns_types.specs.Veneers.{enters_of}

-- Non-secure ROM with the stack pointer 0x20020000 and the reset address 0x101, and eight bytes of Non-secure RAM
abbrev start : Start
start = record { ns_rom = 0 ∷ 0 ∷ 2 ∷ 0x20 ∷ 1 ∷ 1 ∷ 0 ∷ 0 ∷ []; ns_ram = 0 ∷ 0 ∷ 0 ∷ 0 ∷ 0 ∷ 0 ∷ 0 ∷ 0 ∷ []; secure_ram = [] }

-- a turn, by its target, r0, r1, r4, LR and its items, with 0 in all other registers
abbrev turn : (target r0 r1 r4 lr : ℕ) → List Item → Turn
turn target r0 r1 r4 lr items = record {
  r = r0 ∷ r1 ∷ 0 ∷ 0 ∷ r4 ∷ 0 ∷ 0 ∷ 0 ∷ 0 ∷ 0 ∷ 0 ∷ 0 ∷ 0 ∷ [];
  lr = lr;
  nzcvq = 0;
  msp_ns = 0;
  psp_ns = 0;
  items = items;
  target = target;
}

-- an event with its mark, by the exit, r4 and the main stack pointer
abbrev marked : CEvent → (exit r4 msp : ℕ) → Marked
marked e exit r4 msp = record { event = e; mark = record { exit = exit; kept = r4 ∷ 0 ∷ 0 ∷ 0 ∷ 0 ∷ 0 ∷ 0 ∷ 0 ∷ []; msp_ns = msp; psp_ns = 0 } }

-- a hand-over, with 0 in all that isn't named
abbrev given : (pc r0 r4 r12 lr msp : ℕ) → Event
given pc r0 r4 r12 lr msp = event.Given (record { r = r0 ∷ 0 ∷ 0 ∷ 0 ∷ r4 ∷ 0 ∷ 0 ∷ 0 ∷ 0 ∷ 0 ∷ 0 ∷ 0 ∷ r12 ∷ []; lr = lr; pc = pc; nzcvq = 0; msp_ns = msp; psp_ns = 0 })

-- the start code's event, and what it shows
abbrev started : Marked
started = marked c.Started 0x100 0 0x20020000

abbrev first : Event
first = given 0x100 0 0 0 0x100 0x20020000

-- A program with one entry, which gives 42

abbrev answer_at : ℕ → Option ℕ
answer_at a = enters_of (record { name = codes "answer"; address = 0x103FF000 } ∷ []) (codes "answer" ∷ []) a

abbrev answer : ℕ → List ℕ → World → Outcome
answer e args w = Gave 42 (reach 132 w)

abbrev answered : ℕ → List Turn → Run
answered turns ts = run_of (c_run answer_at answer turns start (memory_of start) ts)

-- one call, with the stack pointer set anew
abbrev one_call : List Turn
one_call = record (turn 0x103FF000 0x11 0 0x44 0x201 []) { r = 0 ∷ 0x11 ∷ 0 ∷ 0 ∷ 0x44 ∷ 0 ∷ 0 ∷ 0 ∷ 0 ∷ 0 ∷ 0 ∷ 0 ∷ 0 ∷ []; nzcvq = 0x1F; msp_ns = 0x20020000 } ∷ []

abbrev one_call_run : Run
one_call_run = record { list = started ∷ marked (c.Result 0 42) 0x200 0x44 0x20020000 ∷ []; end = end.Waiting; peak = 132 }

one_call_runs : answered 100 one_call ≡ one_call_run
unfolding goes_of word_at
one_call_runs = refl

abbrev one_call_events : List Event
one_call_events = first ∷ given 0x200 42 0x44 0 0x200 0x20020000 ∷ []

one_call_shows : events_shown (show answer_at one_call_run.list) ≡ one_call_events
unfolding goes_of
one_call_shows = refl

one_call_declares : Declares one_call_events (show answer_at one_call_run.list)
unfolding goes_of
one_call_declares = ((refl, tt), ((refl, refl), tt))

-- a call whose result goes to the entry again, up to the bound
calls_itself : answered 3 (turn 0x103FF000 0 0 0 0x103FF001 [] ∷ []) ≡ record {
  list = started ∷ marked (c.Result 0 42) 0x103FF000 0 0 ∷ marked (c.Result 0 42) 0x103FF000 0 0 ∷ marked (c.Result 0 42) 0x103FF000 0 0 ∷ [];
  end = end.Spent;
  peak = 132;
}
unfolding goes_of word_at
calls_itself = refl

-- the caller sees the start alone
calls_itself_shows : events_shown (show answer_at (started ∷ marked (c.Result 0 42) 0x103FF000 0 0 ∷ marked (c.Result 0 42) 0x103FF000 0 0 ∷ [])) ≡ first ∷ []
unfolding goes_of
calls_itself_shows = refl

calls_itself_declares : Declares (first ∷ []) (show answer_at (started ∷ marked (c.Result 0 42) 0x103FF000 0 0 ∷ marked (c.Result 0 42) 0x103FF000 0 0 ∷ []))
unfolding goes_of
calls_itself_declares = ((refl, tt), tt)

-- Non-secure RAM at the hand-overs of the one call is that of the start
one_call_ram : ram_at answer_at one_call_events 1 one_call start.ns_ram ≡ Some start.ns_ram
unfolding goes_of
one_call_ram = refl

-- A program with three entries: twice calls Non-secure code with a number and adds the number to the answer, one adds 1,
-- and poke writes a word

abbrev entry_at : ℕ → Option ℕ
entry_at a =
    enters_of (record { name = codes "one"; address = 0x103FF008 } ∷ record { name = codes "twice"; address = 0x103FF000 } ∷ record { name = codes "poke"; address = 0x103FF010 } ∷ [])
    (codes "twice" ∷ codes "one" ∷ codes "poke" ∷ []) a

-- an access's events, and its outcome
abbrev told : List CEvent → World → World
told [] w = w
told (e ∷ es) w = told es (emit_plain e w)

abbrev wrote : Result Written Stop → World → Outcome
wrote (Ok x) w = Gave 0 (told x.events (record w { memory = x.memory }))
wrote (Err x) w = stop_with x w

-- the bodies, by how many may be active at once and the need of those that are
abbrev bodies : (turns deep need : ℕ) → ℕ → List ℕ → World → Outcome
bodies turns zero need e args w = Over end.Spent w
bodies turns (suc deep) need zero args w =
    let a = slice_index args 1 in
    let target = aligned 2 (slice_index args 0) in
    let called = emit (c.Called target (a ∷ [])) (mark_at target eight_zeros w) (reach (need + 156) w) in
    then_go (phase entry_at (bodies turns deep (need + 156)) turns (length w.turns) called) (λ r u. Gave (add r a) u)
bodies turns (suc deep) need (suc zero) args w = Gave (add (slice_index args 0) 1) (reach (need + 132) w)
bodies turns (suc deep) need (suc (suc e)) args w = wrote (write_access 4 (slice_index args 0) (slice_index args 1) w.memory) (reach (need + 144) w)

-- the bodies only go on, nested phases included
all_told : (es : List CEvent) (w : World) → GoesOnTo w (told es w)
all_told [] w = stays w
all_told (e ∷ es) w = let f = all_told es (emit_plain e w) in record { turns = f.turns; entries = f.entries }

poke_goes_on : (x : Result Written Stop) (w : World) → GoesOn w (wrote x w)
poke_goes_on (Err y) w = record { by = tt }
poke_goes_on (Ok x) w = let f = all_told x.events (record w { memory = x.memory }) in record { by = record { turns = f.turns; entries = f.entries } }

body_goes_on : (turns deep need : ℕ) → OnlyGoOn (bodies turns deep (need + 156)) → (e : ℕ) (args : List ℕ) (w : World) → GoesOn w (bodies turns (suc deep) need e args w)
body_goes_on turns deep need inner zero args w =
    let target = aligned 2 (slice_index args 0) in
    let u = emit (c.Called target (slice_index args 1 ∷ [])) (mark_at target eight_zeros w) (reach (need + 156) w) in
    let enter = bodies turns deep (need + 156) in
    let rest = phase entry_at enter turns (length w.turns) u in
    let f = stays w in
    on_then w rest _ (earlier w u rest (record { turns = f.turns; entries = f.entries }) (phase_goes_on entry_at enter inner turns (length w.turns) u))
    (λ r v. record { by = stays v })
body_goes_on turns deep need inner (suc zero) args w = let f = stays w in record { by = record { turns = f.turns; entries = f.entries } }
body_goes_on turns deep need inner (suc (suc e)) args w =
    let u = reach (need + 144) w in
    let f = stays w in
    earlier w u _ (record { turns = f.turns; entries = f.entries }) (poke_goes_on (write_access 4 (slice_index args 0) (slice_index args 1) w.memory) u)

bodies_go_on : (turns deep need : ℕ) → OnlyGoOn (bodies turns deep need)
bodies_go_on turns zero need = record { by = λ e args w. record { by = tt } }
bodies_go_on turns (suc deep) need = record { by = body_goes_on turns deep need (bodies_go_on turns deep (need + 156)) }

abbrev played : ℕ → List Turn → Run
played turns ts = run_of (c_run entry_at (bodies turns 8 0) turns start (memory_of start) ts)

-- a call that nests: while twice waits, one is entered and comes back to Non-secure code, which then returns
abbrev nests : List Turn
nests = turn 0x103FF000 0x301 5 0x44 0x201 [] ∷ turn 0x103FF008 9 0 0x99 0x305 [] ∷ turn 0xFEFFFFFE 0x100 0 0 0 [] ∷ []

abbrev nests_run : Run
nests_run = record {
  list = started ∷ marked (c.Called 0x300 (5 ∷ [])) 0x300 0 0 ∷ marked (c.Result 1 0xA) 0x304 0x99 0 ∷ marked (c.Result 0 0x105) 0x200 0x44 0 ∷ [];
  end = end.Waiting;
  peak = 288;
}

nests_runs : played 100 nests ≡ nests_run
unfolding goes_of word_at
nests_runs = refl

abbrev nests_events : List Event
nests_events = first ∷ given 0x300 5 0 0x300 0xFEFFFFFF 0 ∷ given 0x304 0xA 0x99 0 0x304 0 ∷ given 0x200 0x105 0x44 0 0x200 0 ∷ []

nests_shows : events_shown (show entry_at nests_run.list) ≡ nests_events
unfolding goes_of
nests_shows = refl

nests_declares : Declares nests_events (show entry_at nests_run.list)
unfolding goes_of
nests_declares = ((refl, tt), ((refl, refl), ((refl, refl), ((refl, refl), tt))))

-- a nested entry whose own result is the answer of the pending call
abbrev answers : List Turn
answers = turn 0x103FF000 0x301 5 0x44 0x201 [] ∷ turn 0x103FF008 9 0 0x99 0xFEFFFFFF [] ∷ []

abbrev answers_run : Run
answers_run = record {
  list = started ∷ marked (c.Called 0x300 (5 ∷ [])) 0x300 0 0 ∷ marked (c.Result 1 0xA) 0xFEFFFFFE 0x99 0 ∷ marked (c.Result 0 0xF) 0x200 0x44 0 ∷ [];
  end = end.Waiting;
  peak = 288;
}

answers_runs : played 100 answers ≡ answers_run
unfolding goes_of word_at
answers_runs = refl

abbrev answers_events : List Event
answers_events = first ∷ given 0x300 5 0 0x300 0xFEFFFFFF 0 ∷ given 0x200 0xF 0x44 0 0x200 0 ∷ []

answers_shows : events_shown (show entry_at answers_run.list) ≡ answers_events
unfolding goes_of
answers_shows = refl

answers_declares : Declares answers_events (show entry_at answers_run.list)
unfolding goes_of
answers_declares = ((refl, tt), ((refl, refl), ((refl, refl), tt)))

-- One entry after each turn: the result of twice goes to one, which may be entered since a turn came back before, and
-- whose own result may not enter it again.
counts_anew : played 1 (turn 0x103FF000 0x301 5 0 0x103FF009 [] ∷ turn 0xFEFFFFFE 0 0 0 0 [] ∷ []) ≡ record {
  list = started ∷ marked (c.Called 0x300 (5 ∷ [])) 0x300 0 0 ∷ marked (c.Result 0 5) 0x103FF008 0 0 ∷ marked (c.Result 1 6) 0x103FF008 0 0 ∷ [];
  end = end.Spent;
  peak = 156;
}
unfolding goes_of word_at
counts_anew = refl

-- the caller sees the start and the call
counts_anew_shows : events_shown (show entry_at (started ∷ marked (c.Called 0x300 (5 ∷ [])) 0x300 0 0 ∷ marked (c.Result 0 5) 0x103FF008 0 0 ∷ marked (c.Result 1 6) 0x103FF008 0 0 ∷ []))
    ≡ first ∷ given 0x300 5 0 0x300 0xFEFFFFFF 0 ∷ []
unfolding goes_of
counts_anew_shows = refl

counts_anew_declares : Declares (first ∷ given 0x300 5 0 0x300 0xFEFFFFFF 0 ∷ []) (show entry_at (started ∷ marked (c.Called 0x300 (5 ∷ [])) 0x300 0 0 ∷ marked (c.Result 0 5) 0x103FF008 0 0 ∷ marked (c.Result 1 6) 0x103FF008 0 0 ∷ []))
unfolding goes_of
counts_anew_declares = ((refl, tt), ((refl, refl), tt))

-- Non-secure RAM at the last hand-overs of the runs that nest is that of the start
nests_ram : ram_at entry_at nests_events 3 nests start.ns_ram ≡ Some start.ns_ram
unfolding goes_of
nests_ram = refl

answers_ram : ram_at entry_at answers_events 2 answers start.ns_ram ≡ Some start.ns_ram
unfolding goes_of
answers_ram = refl

-- a byte that Non-secure code writes, and then a word that poke writes
abbrev pokes : List Turn
pokes = turn 0x103FF010 0x20000000 7 0 0x201 (Write 0x20000004 9 ∷ []) ∷ []

abbrev pokes_run : Run
pokes_run = record { list = started ∷ marked (c.Wrote 0x20000000 4 7) 0 0 0 ∷ marked (c.Result 2 0) 0x200 0 0 ∷ []; end = end.Waiting; peak = 144 }

pokes_runs : played 100 pokes ≡ pokes_run
unfolding goes_of word_at write_access store put_word
pokes_runs = refl

abbrev pokes_events : List Event
pokes_events = first ∷ event.Wrote 0x20000000 4 7 ∷ given 0x200 0 0 0 0x200 0 ∷ []

pokes_shows : events_shown (show entry_at pokes_run.list) ≡ pokes_events
unfolding goes_of
pokes_shows = refl

pokes_declares : Declares pokes_events (show entry_at pokes_run.list)
unfolding goes_of
pokes_declares = ((refl, tt), (refl, ((refl, refl), tt)))

-- Non-secure RAM at the two hand-overs, and none at a third one
ram_before : ram_at entry_at pokes_events 0 pokes start.ns_ram ≡ Some start.ns_ram
unfolding goes_of
ram_before = refl

ram_behind : ram_at entry_at pokes_events 1 pokes start.ns_ram ≡ Some (7 ∷ 0 ∷ 0 ∷ 0 ∷ 9 ∷ 0 ∷ 0 ∷ 0 ∷ [])
unfolding goes_of put_word
ram_behind = refl

no_ram : ram_at entry_at pokes_events 2 pokes start.ns_ram ≡ None
unfolding goes_of put_word
no_ram = refl

-- Where branches go

first_entered : goes_of entry_at 0x103FF000 ≡ goes.Enter 0
unfolding goes_of
first_entered = refl

second_entered : goes_of entry_at 0x103FF009 ≡ goes.Enter 1
unfolding goes_of
second_entered = refl

in_a_veneer : goes_of entry_at 0x103FF002 ≡ goes.EntryPoint
unfolding goes_of
in_a_veneer = refl

secure_code : goes_of entry_at 0x10000000 ≡ goes.EntryPoint
unfolding goes_of
secure_code = refl

secure_data : goes_of entry_at 0x30000000 ≡ goes.EntryPoint
unfolding goes_of
secure_data = refl

no_region : goes_of entry_at 0x40000000 ≡ goes.Astray
unfolding goes_of
no_region = refl

non_secure_code : goes_of entry_at 0x301 ≡ goes.Turn
unfolding goes_of
non_secure_code = refl

returned : goes_of entry_at 0xFEFFFFFF ≡ goes.Return
unfolding goes_of
returned = refl

-- a name that a program hasn't
no_entry : enters_of (record { name = codes "gone"; address = 0x103FF000 } ∷ []) (codes "answer" ∷ []) 0x103FF000 ≡ None
no_entry = refl

-- Items that stop

reads_secure : item_stop (Read 0x30000000) ≡ Some Access
reads_secure = refl

writes_rom : item_stop (Write 0 1) ≡ Some Astray
writes_rom = refl
