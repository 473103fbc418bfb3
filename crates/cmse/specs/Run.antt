-- What the command `run` puts out, and how it ends.
use Rattle.std.specs.Prelude.{◌≡◌, ℕ, ◌⊎◌, nat_le, List, codes, length, Option, Some, IsSome, Result, Ok, Err, if◌then◌else◌}
use Rattle.cm_base.specs.Outside.{Files, held, IsMissing, given_more, GrownByPrefix}
use Rattle.cmse_build.specs.Reading.{rom_of_image}
use Rattle.ns_script.specs.declared.script.Script.{Script}
use Rattle.ns_script.specs.Script.{script_of}
use Rattle.ns_script.specs.Transcript.{transcript_of}
use Rattle.ns_types.specs.State.{device_of}
use Rattle.ns_turns.specs.Run.{machine_run}
use Rattle.cmse.specs.Files.{FilesChange, Change, OutputStays}
use Rattle.cmse.specs.declared.status.Status.{Status}
use Rattle.cmse.specs.declared.status.Status.TheVariants.{Done, CannotRead, CannotWrite, NoMemory, BadInput}

-- an input that is unfit: the offset in the image, or the line of the script
pub data Unfit : Type 0 where
  in_image : ℕ → Unfit
  in_script : ℕ → Unfit

-- the file that is unfit, of an image and a script, and where
abbrev pub unfit_file : List ℕ → List ℕ → Unfit → List ℕ
unfit_file image script (in_image at) = image
unfit_file image script (in_script at) = script

abbrev pub unfit_at : Unfit → ℕ
unfit_at (in_image at) = at
unfit_at (in_script at) = at

-- what follows a reading, where it isn't unfit
abbrev pub fit_then : {A B : Type 0} → (ℕ → Unfit) → Result A ℕ → (A → Result B Unfit) → Result B Unfit
fit_then unfit (Ok x) f = f x
fit_then unfit (Err k) f = Err (unfit k)

-- a reading of a file of at most so many bytes; a longer one is bad at `at`
abbrev pub at_most : {A : Type 0} → ℕ → ℕ → (List ℕ → Result A ℕ) → List ℕ → Result A ℕ
at_most most at reading bytes = if nat_le (length bytes) most then reading bytes else Err at

-- the Secure ROM of an image that is no longer than images may be
unfoldable pub rom_read : List ℕ → Result (List ℕ) ℕ
rom_read bytes = at_most 8388608 8388608 rom_of_image bytes

-- what a script says that is no longer than scripts may be
unfoldable pub script_read : List ℕ → Result Script ℕ
script_read bytes = at_most 16777216 0 script_of bytes

-- the transcript of what the machine does in at most so many steps
unfoldable pub transcript_for : List ℕ → Script → ℕ → List ℕ
transcript_for rom s steps = transcript_of (machine_run (device_of rom) s.start s.turns steps)

-- the transcript of a run of these files, or the file that is unfit: the image is tested first
unfoldable pub played : List ℕ → List ℕ → ℕ → Result (List ℕ) Unfit
played image script steps =
    fit_then in_image (rom_read image) (λ rom. fit_then in_script (script_read script) (λ s. Ok (transcript_for rom s steps)))

-- where the store tells its files, they hold an image and a script of which this comes
abbrev pub Plays : Option Files → List ℕ → List ℕ → ℕ → Result (List ℕ) Unfit → Type 0
Plays files image script steps answer =
    IsSome files → (img : List ℕ) × (scr : List ℕ) × (held files image ≡ Some img) × (held files script ≡ Some scr) × (played img scr steps ≡ answer)

-- the output has grown by the first bytes of the transcript
abbrev pub PutPart : Change → List ℕ → List ℕ → ℕ → Type 0
PutPart change image script steps =
    (text : List ℕ) × Plays change.files.old image script steps (Ok text) × GrownByPrefix change.output.before change.output.after text

-- Why a file of the two wasn't read: the store refused it, or it lacks it and not the one before it.
abbrev pub Unread : FilesChange → List ℕ → List ℕ → List ℕ → Type 0
Unread files image script file =
    ((file ≡ image) × (files.reads ⊎ IsMissing files.old image))
    ⊎ ((file ≡ script) × (files.reads ⊎ (IsMissing files.old script × IsSome (held files.old image))))

-- How `run` ends. No file is changed, which is said elsewhere.
abbrev pub RunEnds : Change → ℕ → List ℕ → List ℕ → Status → Type 0
RunEnds change steps image script Done =
    (text : List ℕ) × Plays change.files.old image script steps (Ok text) × (change.output.after ≡ given_more change.output.before text)
RunEnds change steps image script (CannotRead file) = OutputStays change.output × Unread change.files image script file
RunEnds change steps image script (CannotWrite file) = (file ≡ codes "-") × change.output.puts × PutPart change image script steps
RunEnds change steps image script NoMemory = OutputStays change.output ⊎ PutPart change image script steps
RunEnds change steps image script (BadInput file at) =
    OutputStays change.output × ((unfit : Unfit) × (file ≡ unfit_file image script unfit) × (at ≡ unfit_at unfit) × Plays change.files.old image script steps (Err unfit))
RunEnds change steps image script _ = ⊥
