-- The transcripts of a run of the machine and of a run of the C program.
use Rattle.std.specs.Prelude.{ℕ, ◌+◌, ◌/◌, ◌%◌, List, [], ◌∷◌, ◌++◌, slice_index_or, codes, false}
use Rattle.std.specs.List.{flat_map}
use Rattle.std.specs.Fmt.{decimal, digit_glyph}
use Rattle.cm_base.specs.declared.stop.Stop.{Stop}
use Rattle.cm_base.specs.declared.stop.Stop.TheVariants as stop
use Rattle.ns_types.specs.declared.turn.View.{View}
use Rattle.ns_types.specs.declared.event.Event.{Event}
use Rattle.ns_types.specs.declared.event.Event.TheVariants as event
use Rattle.ns_types.specs.declared.event.End.{End}
use Rattle.ns_types.specs.declared.event.End.TheVariants as ending
use Rattle.ns_types.specs.declared.event.Events.{Events}
use Rattle.ns_types.specs.declared.event.CEvent.{CEvent}
use Rattle.ns_types.specs.declared.event.CEvent.TheVariants as c_event
use Rattle.ns_types.specs.declared.event.CEvents.{CEvents}
use Rattle.ns_script.specs.Turns.{names}

-- a number below 256 in two digits of lower case
unfoldable pub hex2 : ℕ → List ℕ
hex2 n = digit_glyph false (n / 16) ∷ digit_glyph false (n % 16) ∷ []

-- a number below 2 ^ 32 in eight digits
unfoldable pub hex8 : ℕ → List ℕ
hex8 n = hex2 (n / 16777216) ++ hex2 (n / 65536 % 256) ++ hex2 (n / 256 % 256) ++ hex2 (n % 256)

-- ` NAME=VALUE`
unfoldable pub field : List ℕ → ℕ → List ℕ
field name value = codes " " ++ name ++ codes "=" ++ hex8 value

-- the fields of registers, of which the first is r of this number
abbrev pub fields_from : ℕ → List ℕ → List ℕ
fields_from k [] = []
fields_from k (value ∷ more) = field (slice_index_or names k []) value ++ fields_from (k + 1) more

unfoldable pub given_line : View → List ℕ
given_line v =
    codes "given" ++ field (codes "pc") v.pc ++ fields_from 0 v.r ++ field (codes "lr") v.lr
    ++ codes " flags=" ++ hex2 v.nzcvq ++ field (codes "msp") v.msp_ns ++ field (codes "psp") v.psp_ns ++ codes "\n"

unfoldable pub wrote_line : ℕ → ℕ → ℕ → List ℕ
wrote_line at size value =
    codes "wrote at=" ++ hex8 at ++ codes " size=" ++ decimal size ++ codes " value=" ++ hex8 value ++ codes "\n"

abbrev pub stop_name : Stop → List ℕ
stop_name stop.Divide = codes "Divide"
stop_name stop.Outside = codes "Outside"
stop_name stop.Misaligned = codes "Misaligned"
stop_name stop.DataStack = codes "DataStack"
stop_name stop.CallTarget = codes "CallTarget"
stop_name stop.EntryPoint = codes "EntryPoint"
stop_name stop.Access = codes "Access"
stop_name stop.ReturnFault = codes "ReturnFault"
stop_name stop.Astray = codes "Astray"
stop_name stop.StackLimit = codes "StackLimit"
stop_name stop.Undefined = codes "Undefined"
stop_name stop.Unaligned = codes "Unaligned"
stop_name stop.Unmapped = codes "Unmapped"
stop_name stop.BadState = codes "BadState"

abbrev pub stopped_line : Stop → List ℕ
stopped_line s = codes "stopped " ++ stop_name s ++ codes "\n"

-- one line for an event
unfoldable pub event_line : Event → List ℕ
event_line (event.Given v) = given_line v
event_line (event.Wrote at size value) = wrote_line at size value
event_line (event.Stopped s) = stopped_line s

abbrev pub end_line : End → List ℕ
end_line ending.Stopped = codes "end stopped\n"
end_line ending.Waiting = codes "end waiting\n"
end_line ending.Spent = codes "end spent\n"

-- the transcript of a run of the machine
unfoldable pub transcript_of : Events → List ℕ
transcript_of e = flat_map event_line e.list ++ end_line e.end

-- ` VALUE`
unfoldable pub spaced : ℕ → List ℕ
spaced value = codes " " ++ hex8 value

-- an entry function of this name ended with this result
unfoldable pub result_line : List ℕ → ℕ → List ℕ
result_line name r0 = codes "result " ++ name ++ spaced r0 ++ codes "\n"

-- a Non-secure call of this target, with each of its arguments
unfoldable pub called_line : ℕ → List ℕ → List ℕ
called_line target args = codes "called" ++ spaced target ++ flat_map spaced args ++ codes "\n"

-- One line for an event of a C program whose entries have these names: an entry is numbered by its place among them.
unfoldable pub c_event_line : List (List ℕ) → CEvent → List ℕ
c_event_line entries c_event.Started = codes "started\n"
c_event_line entries (c_event.Wrote at size value) = wrote_line at size value
c_event_line entries (c_event.Result entry r0) = result_line (slice_index_or entries entry []) r0
c_event_line entries (c_event.Called target args) = called_line target args
c_event_line entries (c_event.Stopped s) = stopped_line s

-- the greatest stack need of the functions active at one moment
unfoldable pub peak_line : ℕ → List ℕ
peak_line peak = codes "peak " ++ decimal peak ++ codes "\n"

-- the transcript of a run of a C program whose entries have these names
unfoldable pub c_transcript_of : List (List ℕ) → CEvents → List ℕ
c_transcript_of entries e = flat_map (c_event_line entries) e.list ++ end_line e.end ++ peak_line e.peak
