-- From what was read, made and written to how the command ends.
use Rattle.std.proofs.Common.{◌≡◌, ◌≢◌, ℕ, ◌+◌, ◌-◌, ◌<◌, ◌≤◌, ◌⊎◌, true, List, [], ◌∷◌, ◌++◌, length, take, codes, refl, sym, ap, ◌∙◌, subst, ⊎_elim, inl, inr, arith, Option, Some, None, IsSome, is_some, Ok, option_map, length-append}
use Rattle.std.specs.Fmt.{decimal}
use Rattle.std.proofs.lemmas.Fmt.{length-decimal-le}
use Rattle.std.proofs.lemmas.List.{take_all, length-take}
use Rattle.std.proofs.lemmas.Bool.{cases_lt}
use Rattle.cm_base.specs.Outside.{Files, held, IsMissing, OthersStay}
use Rattle.import_lib.specs.Library.{library_of}
use Rattle.cmse_build.specs.Constant.{IsConstant, IsEnd}
use Rattle.cmse_build.specs.Image.{image_of}
use Rattle.cmse_build.specs.Reading.{rom_of_image, rom_used_most, zeros, word, is_entry}
use Rattle.cmse_build.proofs.Ready.{short_name}
use Rattle.constant_entry.specs.Code.{start_place, rom_bytes, used_bytes, gateway_bytes, constant_device}
use Rattle.constant_entry.specs.Meaning.{one_veneer}
use Rattle.constant_entry.proofs.Placed.{gives_constant}
use Rattle.constant_entry.proofs.Views.{shows_constant}
use Rattle.constant_entry.proofs.OneEntry.{refines_one, only_one, worlds_one, ram_one, unseen_one, never_stops_one, sealed_one}
use Rattle.cmse.specs.declared.status.Status.{Status}
use Rattle.cmse.specs.declared.status.Status.TheVariants.{Done, Refused, CannotRead, CannotWrite, NoMemory}
use Rattle.cmse.specs.Files.{FilesChange, FilesStay}
use Rattle.cmse.specs.Build.{one_gate, Builds, IsOther, BuildEnds}
use Rattle.cmse.specs.Steps.{IsReadFault, Delivers, IsRefusalOf}

-- what is built from a text of the form
pub builds : (text name lib img : List ℕ) (n : ℕ) → IsConstant text name n → lib ≡ library_of (one_veneer name) → img ≡ image_of (start_place + 1) (used_bytes n) gateway_bytes (one_gate name) → rom_of_image img ≡ Ok (rom_bytes n) → Builds text lib img
builds text name lib img n form lists file reads =
    let small : n < 4294967296 = let le = form.is_int in omega arith in
    record {
      name = name;
      n = n;
      form = form;
      lists = lists;
      file = file;
      device = constant_device n;
      reads = reads;
      shows = shows_constant (constant_device n) n (gives_constant n small);
      begins = sealed_one n small;
      does = refines_one name n small;
      only = only_one name n small;
      no_stop = never_stops_one name n small;
      unseen = unseen_one name n small;
      worlds = worlds_one name n small;
      ram = ram_one name n small;
    }

end_short : (rest : List ℕ) → IsEnd rest → length rest ≤ 4
end_short rest e = ⊎_elim (λ a. let l : length rest ≡ 3 = ap length a in omega arith) (λ b. let l : length rest ≡ 4 = ap length b in omega arith) e

-- a text of the form is short
form_short : (text name : List ℕ) (n : ℕ) → IsConstant text name n → length text ≤ 1000
form_short text name n f =
    let a : List ℕ = codes "int __attribute__((cmse_nonsecure_entry)) " in
    let b : List ℕ = codes "(void) { return " in
    let total : length text ≡ length a + (length name + (length b + (length (decimal n) + length f.rest))) = ap length f.spelled ∙ length-append a _ ∙ ap (λ k. length a + k) (length-append name _ ∙ ap (λ k. length name + k) (length-append b _ ∙ ap (λ k. length b + k) (length-append (decimal n) f.rest))) in
    let la : length a ≡ 42 = refl in
    let lb : length b ≡ 16 = refl in
    let ln = short_name name f.is_name in
    let ld = length-decimal-le 10 n (omega arith) (let le = f.is_int in omega arith) (let le = f.is_int in omega arith) in
    let lr = end_short f.rest f.is_end in
    omega arith

-- what was read of a short file is all of it
read_whole : (o : Option (List ℕ)) (text : List ℕ) → option_map (take 1048577) o ≡ Some text → length text ≤ 1000 → o ≡ Some text
read_whole None text e short = absurd (cc)
read_whole (Some all) text e short =
    let same : take 1048577 all ≡ text = cc in
    let n : length (take 1048577 all) ≤ 1000 = subst (λ l. length l ≤ 1000) (sym same) short in
    let few : length all ≤ 1048577 = omega (arith, length-take 1048577 all) in
    ap Some (sym (take_all 1048577 all few) ∙ same)

pub read_form : (o : Option (List ℕ)) (text lib img : List ℕ) → option_map (take 1048577) o ≡ Some text → Builds text lib img → o ≡ Some text
read_form o text lib img e b = read_whole o text e (form_short text b.name b.n b.form)

-- a file of which something else than the form was read isn't of the form
pub read_other : (o : Option (List ℕ)) (text : List ℕ) → option_map (take 1048577) o ≡ Some text → IsOther text → (all : List ℕ) × (o ≡ Some all) × IsOther all
read_other None text e other = absurd (cc)
read_other (Some all) text e other = (
  all,
  refl,
  λ name n form.
      let short = form_short all name n form in
      let same : take 1048577 all ≡ text = cc in
      let is : all ≡ text = sym (take_all 1048577 all (omega arith)) ∙ same in
      other name n (subst (λ l. IsConstant l name n) is form),
)

told : (old new : Option Files) → is_some new ≡ is_some old → IsSome old → IsSome new
told old new e h = e ∙ h

-- after the writes
pub deliver_ends : (c : FilesChange) (library lib image img source text : List ℕ) (status : Status) → is_some c.new ≡ is_some c.old → Delivers c.old c.new c.writes library lib image img status → Builds text lib img → (IsSome c.old → held c.old source ≡ Some text) → BuildEnds c image library source status
deliver_ends c library lib image img source text Done e d b h =
    (λ t. (text, lib, img, h t, d.0 (told c.old c.new e t), d.1 (told c.old c.new e t), b), d.2)
deliver_ends c library lib image img source text (CannotWrite file) e d b h =
    (d.0, ⊎_elim (λ x. inl x) (λ x. inr (x.0, (λ t. (text, lib, img, h t, x.1 (told c.old c.new e t), b)), x.2)) d.1)
deliver_ends c library lib image img source text NoMemory e d b h =
    (d.0, ⊎_elim (λ x. inl x) (λ x. inr (λ t. (text, lib, img, h t, x (told c.old c.new e t), b))) d.1)
deliver_ends c library lib image img source text _ e d b h = absurd d

-- after a read that was refused
pub read_ends : (c : FilesChange) (image library source : List ℕ) (status : Status) → FilesStay c → IsReadFault status source (c.reads ⊎ IsMissing c.old source) → BuildEnds c image library source status
read_ends c image library source (CannotRead file) e d = (d.0, d.1, e)
read_ends c image library source NoMemory e d = ((λ other ne. ap (λ f. held f other) e), inl (ap (λ f. held f library) e))
read_ends c image library source _ e d = absurd d

-- after the refusal of a source
pub refused_ends : (c : FilesChange) (image library source : List ℕ) (status : Status) → FilesStay c → IsRefusalOf source status → (IsSome c.old → (text : List ℕ) × (held c.old source ≡ Some text) × IsOther text) → BuildEnds c image library source status
refused_ends c image library source (Refused refusal) e d h = (d, e, h)
refused_ends c image library source NoMemory e d h = ((λ other ne. ap (λ f. held f other) e), inl (ap (λ f. held f library) e))
refused_ends c image library source _ e d h = absurd d

nat_same : (x y : ℕ) → (x ≡ y) ⊎ (x ≢ y)
nat_same x y =
    ⊎_elim (λ l. inr (λ e. omega arith)) (λ l. ⊎_elim (λ m. inr (λ e. omega arith)) (λ m. inl (omega arith)) (cases_lt y x)) (cases_lt x y)

-- whether two names are one
name_same : (a b : List ℕ) → (a ≡ b) ⊎ (a ≢ b)
name_same [] [] = inl refl
name_same [] (y ∷ b) = inr (λ e. cc)
name_same (x ∷ a) [] = inr (λ e. cc)
name_same (x ∷ a) (y ∷ b) =
    ⊎_elim
    (λ p. ⊎_elim (λ q. inl (ap (λ z. z ∷ a) p ∙ ap (λ l. y ∷ l) q)) (λ q. inr (λ e. q (cc))) (name_same a b))
    (λ p. inr (λ e. p (cc)))
    (nat_same x y)

-- the library is written, and there was no memory for the image
pub second_ends : (old mid new : Option Files) (writes : Type 0) (library lib image img : List ℕ) → image ≢ library → (IsSome old → held mid library ≡ Some lib) → OthersStay old mid library → held new image ≡ held mid image → OthersStay mid new image → is_some mid ≡ is_some old → is_some new ≡ is_some mid → Delivers old new writes library lib image img NoMemory
second_ends old mid new writes library lib image img apart wrote first same second tells tells2 = (
  (λ other ne. ⊎_elim (λ e. ap (held new) e ∙ same ∙ ap (held mid) (sym e) ∙ first other ne) (λ f. second other f ∙ first other ne) (name_same other image)),
  inr (λ t. second library (λ e. apart (sym e)) ∙ wrote (sym tells ∙ sym tells2 ∙ t)),
)

-- the word that the image's entry is held against
pub entry_word : (n : ℕ) → is_entry (start_place + 1) (word (used_bytes n) 4) ≡ true
entry_word n = refl

-- the ROM that the image reads as
pub same_rom : (n : ℕ) (rom region : List ℕ) → rom ≡ used_bytes n → region ≡ gateway_bytes → (rom ++ zeros (rom_used_most - length rom)) ++ region ≡ rom_bytes n
unfolding zeros
same_rom n rom region e f = ap (λ r. (r ++ zeros (rom_used_most - length r)) ++ region) e ∙ ap (λ r. (used_bytes n ++ zeros (rom_used_most - length (used_bytes n))) ++ r) f

-- the file that is written is that of these bytes and this name
pub same_file : (n : ℕ) (rom region name given : List ℕ) → rom ≡ used_bytes n → region ≡ gateway_bytes → name ≡ given → image_of (start_place + 1) rom region (one_gate name) ≡ image_of (start_place + 1) (used_bytes n) gateway_bytes (one_gate given)
same_file n rom region name given e f g =
    ap (λ r. image_of (start_place + 1) r region (one_gate name)) e
    ∙ ap (λ r. image_of (start_place + 1) (used_bytes n) r (one_gate name)) f
    ∙ ap (λ l. image_of (start_place + 1) (used_bytes n) gateway_bytes (one_gate l)) g
