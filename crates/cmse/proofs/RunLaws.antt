-- From what was read and played to how `run` ends.
use Rattle.std.proofs.Common.{◌≡◌, ℕ, ◌+◌, ◌≤◌, ◌<◌, nat_le, true, false, List, length, take, refl, sym, ap, subst, ◌∙◌, ⊎_elim, inl, inr, arith, Option, Some, None, IsSome, Result, Ok, Err, option_map}
use Rattle.std.proofs.lemmas.Bool.{cases_lt}
use Rattle.std.proofs.lemmas.Bool.Decides.{nat_tests}
use Rattle.std.proofs.lemmas.List.{take_all, length-take}
use Rattle.cm_base.specs.Outside.{Files, held}
use Rattle.cmse_build.specs.Reading.{rom_of_image}
use Rattle.ns_script.specs.Script.{script_of}
use Rattle.cmse.specs.declared.status.Status.{Status}
use Rattle.cmse.specs.declared.status.Status.TheVariants.{Done, CannotWrite, NoMemory, BadInput}
use Rattle.cmse.specs.Files.{Change, OutputStays}
use Rattle.cmse.specs.Run.{Unfit, in_image, in_script, unfit_file, unfit_at, at_most, fit_then, rom_read, script_read, transcript_for, played, Plays, RunEnds}
use Rattle.cmse.specs.Steps.{PutEnds, IsUnfit}

at_most_short : {A : Type 0} → (most at : ℕ) (f : List ℕ → Result A ℕ) (bytes : List ℕ) → length bytes ≤ most → at_most most at f bytes ≡ f bytes
at_most_short most at f bytes le = let b : nat_le (length bytes) most ≡ true = grind (arith, nat_tests) in rw b refl

at_most_long : {A : Type 0} → (most at : ℕ) (f : List ℕ → Result A ℕ) (bytes : List ℕ) → most < length bytes → at_most most at f bytes ≡ Err at
at_most_long most at f bytes lt = let b : nat_le (length bytes) most ≡ false = grind (arith, nat_tests) in rw b refl

-- one byte more than a file may have says all
limited : {A : Type 0} → (most at : ℕ) (f : List ℕ → Result A ℕ) (all : List ℕ) → at_most most at f (take (most + 1) all) ≡ at_most most at f all
limited most at f all =
    ⊎_elim
    (λ lt. at_most_long most at f (take (most + 1) all) (omega (arith, length-take (most + 1) all)) ∙ sym (at_most_long most at f all lt))
    (λ le. ap (at_most most at f) (take_all (most + 1) all (omega arith)))
    (cases_lt most (length all))

rom_limited : (all : List ℕ) → rom_read (take 8388609 all) ≡ rom_read all
unfolding rom_read
rom_limited all = limited 8388608 8388608 rom_of_image all

script_limited : (all : List ℕ) → script_read (take 16777217 all) ≡ script_read all
unfolding script_read
script_limited all = limited 16777216 0 script_of all

played_by : (img scr img2 scr2 : List ℕ) (steps : ℕ) → rom_read img ≡ rom_read img2 → script_read scr ≡ script_read scr2 → played img scr steps ≡ played img2 scr2 steps
unfolding played
played_by img scr img2 scr2 steps e f =
    ap (λ r. fit_then in_image r (λ rom. fit_then in_script (script_read scr) (λ s. Ok (transcript_for rom s steps)))) e
    ∙ ap (λ t. fit_then in_image (rom_read img2) (λ rom. fit_then in_script t (λ s. Ok (transcript_for rom s steps)))) f

plays_held : (files : Option Files) (image script : List ℕ) (steps : ℕ) (o p : Option (List ℕ)) (img scr : List ℕ) (answer : Result (List ℕ) Unfit) → option_map (take 8388609) o ≡ Some img → option_map (take 16777217) p ≡ Some scr → played img scr steps ≡ answer → held files image ≡ o → held files script ≡ p → (x : List ℕ) × (y : List ℕ) × (held files image ≡ Some x) × (held files script ≡ Some y) × (played x y steps ≡ answer)
plays_held files image script steps None p img scr answer e f g h k = absurd (cc)
plays_held files image script steps (Some x) None img scr answer e f g h k = absurd (cc)
plays_held files image script steps (Some x) (Some y) img scr answer e f g h k =
    let a : take 8388609 x ≡ img = cc in
    let b : take 16777217 y ≡ scr = cc in
    (x, y, h, k, sym (played_by img scr x y steps (ap rom_read (sym a) ∙ rom_limited x) (ap script_read (sym b) ∙ script_limited y)) ∙ g)

-- what was played of the bytes that were read is what the files play
pub plays : (files : Option Files) (image script : List ℕ) (steps : ℕ) (img scr : List ℕ) (answer : Result (List ℕ) Unfit) → (IsSome files → option_map (take 8388609) (held files image) ≡ Some img) → (IsSome files → option_map (take 16777217) (held files script) ≡ Some scr) → played img scr steps ≡ answer → Plays files image script steps answer
plays files image script steps img scr answer e f g =
    λ told. plays_held files image script steps (held files image) (held files script) img scr answer (e told) (f told) g refl refl

-- what was read of a script after a read that left the files
pub read_later : (old mid : Option Files) (script bytes : List ℕ) → mid ≡ old → (IsSome mid → option_map (take 16777217) (held mid script) ≡ Some bytes) → IsSome old → option_map (take 16777217) (held old script) ≡ Some bytes
read_later old mid script bytes stay value told =
    subst (λ f. option_map (take 16777217) (held f script) ≡ Some bytes) stay (value (subst IsSome (sym stay) told))

-- after the put
pub put_ends : (c : Change) (steps : ℕ) (image script text : List ℕ) (status : Status) → PutEnds c.output text status → Plays c.files.old image script steps (Ok text) → RunEnds c steps image script status
put_ends c steps image script text Done d p = (text, p, d)
put_ends c steps image script text (CannotWrite file) d p = (d.0, d.1, (text, p, d.2))
put_ends c steps image script text NoMemory d p = ⊎_elim (λ e. inl e) (λ g. inr (text, p, g)) d
put_ends c steps image script text _ d p = absurd d

-- after a test that refused a file
pub unfit_ends : (c : Change) (steps : ℕ) (image script : List ℕ) (unfit : Unfit) (status : Status) → OutputStays c.output → IsUnfit (unfit_file image script unfit) (unfit_at unfit) status → Plays c.files.old image script steps (Err unfit) → RunEnds c steps image script status
unfit_ends c steps image script unfit NoMemory e d p = inl e
unfit_ends c steps image script unfit (BadInput file at) e d p = (e, (unfit, d.0, d.1, p))
unfit_ends c steps image script unfit _ e d p = absurd d
