-- Where linked objects stand in Secure ROM: the texts behind the vector table, in their order, and behind them the initial contents,
-- each part at a multiple of 4.
use Rattle.std.specs.Prelude.{ℕ, ◌+◌, ◌-◌, ◌==◌, List, [], ◌∷◌, length, if◌then◌else◌}
use Rattle.std.specs.List.{fold}
use Rattle.cm_base.specs.declared.regions.TheConstants.{SECURE_ROM}
use Rattle.elf32.specs.Tables.{aligned}
use Rattle.elf_object.specs.declared.object.Object.{Object}
use Rattle.elf_object.specs.declared.object.Sited.{Sited}

-- the address of the first text: behind the 16 words of the vector table
abbrev pub first_text : ℕ
first_text = 0x10000040

-- where a part begins that stands behind another one
abbrev pub behind : ℕ → List ℕ → ℕ
behind at part = aligned (at + length part)

-- where a part begins that stands behind the texts of objects, or behind their initial contents, the first of which begin at an address
abbrev pub behind_texts : ℕ → List Object → ℕ
behind_texts at objects = fold (λ a o. behind a o.text) at objects

abbrev pub behind_inits : ℕ → List Object → ℕ
behind_inits at objects = fold (λ a o. behind a o.init) at objects

-- objects with their addresses, where the first text and the first initial contents begin at these
abbrev pub sited_from : ℕ → ℕ → List Object → List Sited
sited_from text_at init_at [] = []
sited_from text_at init_at (o ∷ os) =
    record { object = o; text_at = text_at; init_at = init_at } ∷ sited_from (behind text_at o.text) (behind init_at o.init) os

-- where the first initial contents begin
abbrev pub first_init : List Object → ℕ
first_init objects = behind_texts first_text objects

-- the objects of a program with their addresses
unfoldable pub sited : List Object → List Sited
sited objects = sited_from first_text (first_init objects) objects

-- where a part ends that stands at an address, or what stands before it where it is empty
abbrev pub end_of : ℕ → ℕ → List ℕ → ℕ
end_of before at part = if length part == 0 then before else at + length part

-- where the last text or initial contents end that aren't empty
abbrev pub texts_end : List Sited → ℕ
texts_end all = fold (λ e s. end_of e s.text_at s.object.text) first_text all

abbrev pub parts_end : List Sited → ℕ
parts_end all = fold (λ e s. end_of e s.init_at s.object.init) (texts_end all) all

-- how many bytes of Secure ROM are used
abbrev pub used : List Sited → ℕ
used all = parts_end all - SECURE_ROM.from
