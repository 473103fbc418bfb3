-- A row of the instruction table: where the bits of its fields stand in the word first:second, and which numbers they take.
use Rattle.std.specs.Prelude.{ℕ, ◌+◌, ◌-◌, ◌*◌, ◌/◌, ◌%◌, ◌^◌, Bool, true, false, cond, ◌&&◌, eqb, ltb, leb, List, [], ◌∷◌, bit_or, map, Option, Some, None}
use Rattle.std.specs.List.{list_all}
use Rattle.v8m_isa.specs.declared.instr.Code.{Code}
use Rattle.v8m_isa.specs.declared.form.Piece.{Piece}
use Rattle.v8m_isa.specs.declared.form.Field.{Field}
use Rattle.v8m_isa.specs.declared.form.Form.{Form}
use Rattle.v8m_isa.specs.declared.form.Kind.{Kind}
use Rattle.v8m_isa.specs.declared.form.Kind.TheVariants as kind
use Rattle.v8m_isa.specs.declared.form.Rule.{Rule}
use Rattle.v8m_isa.specs.declared.form.Rule.TheVariants.{Free, SpFromSp}
use Rattle.v8m_isa.specs.declared.operand.Operand.{Operand}
use Rattle.v8m_isa.specs.declared.operand.Operand.TheVariants as operand
use Rattle.v8m_isa.specs.declared.operand.TheConstants as fields
use Rattle.v8m_isa.specs.Table.{is_register, is_register_or_sp, is_condition, is_number, is_special, is_list, is_offset, is_sp_from_sp, not_xor}

-- the bits that a piece has of a field's, put into the word, and got from it
abbrev pub put : Piece → ℕ → ℕ
put p x = x / 2 ^ p.from % 2 ^ p.wide * 2 ^ p.at

abbrev pub got : Piece → ℕ → ℕ
got p w = w / 2 ^ p.at % 2 ^ p.wide * 2 ^ p.from

unfoldable pub put_all : List Piece → ℕ → ℕ
put_all [] x = 0
put_all (p ∷ ps) x = bit_or (put p x) (put_all ps x)

unfoldable pub got_all : List Piece → ℕ → ℕ
got_all [] w = 0
got_all (p ∷ ps) w = bit_or (got p w) (got_all ps w)

-- each piece has its bits in 32, here and there
abbrev pub is_in_word : Piece → Bool
is_in_word p = ltb p.at 32 && (ltb p.from 32 && (ltb p.wide 32 && (leb (p.at + p.wide) 32 && leb (p.from + p.wide) 32)))

abbrev pub are_in_word : Field → Bool
are_in_word f = ltb f.wide 32 && list_all is_in_word f.pieces

abbrev pub all_in_word : List Field → Bool
all_in_word fs = list_all are_in_word fs

-- S:I1:I2:imm10:imm11 as S:J1:J2:imm10:imm11, or back (DDI0553, B, T4 encoding)
unfoldable pub turn : ℕ → ℕ
turn x = let s = x / 2 ^ 23 in s * 2 ^ 23 + not_xor (x / 2 ^ 22 % 2) s * 2 ^ 22 + not_xor (x / 2 ^ 21 % 2) s * 2 ^ 21 + x % 2 ^ 21

-- n bits with a sign, as a number modulo 2 ^ 32
abbrev pub sign_extend : ℕ → ℕ → ℕ
sign_extend n x = cond (ltb x (2 ^ (n - 1))) x (x + (2 ^ 32 - 2 ^ n))

-- which numbers a field of so many bits takes
unfoldable pub takes : Kind → ℕ → ℕ → Bool
takes kind.Register n v = is_register v
takes kind.Base n v = is_register_or_sp v
takes kind.Condition n v = is_condition v
takes kind.Number n v = is_number n v
takes kind.Special n v = is_special v
takes kind.List n v = is_list v
takes kind.Near n v = is_offset 20 v
takes kind.Far n v = is_offset 24 v

-- the bits of a number in its field, and the number that bits show there
unfoldable pub bits_of : Kind → ℕ → ℕ
bits_of kind.Register v = v
bits_of kind.Base v = v
bits_of kind.Condition v = v
bits_of kind.Number v = v
bits_of kind.Special v = v
bits_of kind.List v = v
bits_of kind.Near v = v / 2 % 2 ^ 20
bits_of kind.Far v = turn (v / 2 % 2 ^ 24)

unfoldable pub number_of : Kind → ℕ → ℕ
number_of kind.Register x = x
number_of kind.Base x = x
number_of kind.Condition x = x
number_of kind.Number x = x
number_of kind.Special x = x
number_of kind.List x = x
number_of kind.Near x = sign_extend 21 (2 * (x % 2 ^ 20))
number_of kind.Far x = sign_extend 25 (2 * turn (x % 2 ^ 24))

abbrev pub field_put : Field → ℕ → ℕ
field_put f v = put_all f.pieces (bits_of f.kind v)

abbrev pub field_got : Field → ℕ → ℕ
field_got f w = number_of f.kind (got_all f.pieces w)

abbrev pub field_takes : Field → ℕ → Bool
field_takes f v = takes f.kind f.wide v

-- the bits of these numbers in the word
unfoldable pub fields_put : List Field → List ℕ → ℕ
fields_put [] vs = 0
fields_put (f ∷ fs) [] = 0
fields_put (f ∷ fs) (v ∷ vs) = bit_or (field_put f v) (fields_put fs vs)

-- the numbers that a word has in the fields
abbrev pub fields_got : List Field → ℕ → List ℕ
fields_got fs w = map (λ f. field_got f w) fs

-- there is a number for each field, and the field takes it
unfoldable pub all_taken : List Field → List ℕ → Bool
all_taken [] [] = true
all_taken [] (v ∷ vs) = false
all_taken (f ∷ fs) [] = false
all_taken (f ∷ fs) (v ∷ vs) = field_takes f v && all_taken fs vs

-- a rule of a row beside those of its fields: ADDW and SUBW write SP only from SP
unfoldable pub is_kept : Rule → List ℕ → Bool
is_kept Free vs = true
is_kept SpFromSp [] = true
is_kept SpFromSp (d ∷ []) = true
is_kept SpFromSp (d ∷ (n ∷ vs)) = is_sp_from_sp d n

-- where a field stands, and what it takes
unfoldable pub field_of : Operand → Field
field_of operand.Blank = fields.BLANK
field_of operand.NarrowRdOrSp = fields.NARROW_RD_OR_SP
field_of operand.NarrowRm = fields.NARROW_RM
field_of operand.NarrowRmOrSp = fields.NARROW_RM_OR_SP
field_of operand.NarrowImm8 = fields.NARROW_IMM8
field_of operand.Rd = fields.RD
field_of operand.RdOrSp = fields.RD_OR_SP
field_of operand.Rn = fields.RN
field_of operand.RnOrSp = fields.RN_OR_SP
field_of operand.Rm = fields.RM
field_of operand.Ra = fields.RA
field_of operand.Rt = fields.RT
field_of operand.Imm12 = fields.IMM12
field_of operand.SplitImm12 = fields.SPLIT_IMM12
field_of operand.Imm16 = fields.IMM16
field_of operand.List = fields.LIST
field_of operand.Far = fields.FAR
field_of operand.Near = fields.NEAR
field_of operand.Condition = fields.CONDITION
field_of operand.Special = fields.SPECIAL

abbrev pub fields_of : List Operand → List Field
fields_of os = map field_of os

-- a row, without the number of its fields in its type
pub record Row : Type 0 where
  pub wide : Bool
  pub base : ℕ
  pub fields : List Field
  pub rule : Rule

abbrev pub row : {N : ℕ} → Form N → Row
row f = record { wide = f.wide; base = f.base; fields = fields_of f.operands; rule = f.rule }

-- whether these are numbers of an instruction of the row
abbrev pub row_takes : Row → List ℕ → Bool
row_takes r vs = all_taken r.fields vs && is_kept r.rule vs

-- the word first:second of these numbers
unfoldable pub word_of : Row → List ℕ → ℕ
word_of r vs = bit_or r.base (fields_put r.fields vs)

abbrev pub row_size : Row → ℕ
row_size r = cond r.wide 4 2

abbrev pub row_code : Row → List ℕ → Code
row_code r vs = record { first = word_of r vs / 2 ^ 16; second = word_of r vs % 2 ^ 16; size = row_size r }

-- the word that is held against a row: for a row of one halfword, of that alone
abbrev pub word_in : Row → ℕ → ℕ → ℕ
word_in r first second = first * 2 ^ 16 + cond r.wide second 0

-- a word is of a row where the row takes the numbers that the word has there, and the word is theirs
abbrev pub fits : Row → ℕ → Bool
fits r w = row_takes r (fields_got r.fields w) && eqb (word_of r (fields_got r.fields w)) w

abbrev pub numbers_in : Row → ℕ → ℕ → Option (List ℕ)
numbers_in r first second = cond (fits r (word_in r first second)) (Some (fields_got r.fields (word_in r first second))) None
