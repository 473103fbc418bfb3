-- Which row is tried, by a few bits of the halfwords.
use Rattle.std.specs.Prelude.{ℕ, ◌/◌, ◌%◌, ◌^◌, cond, eqb, Option, Some, None}
use Rattle.v8m_isa.specs.declared.table.Opcode.{Opcode}
use Rattle.v8m_isa.specs.declared.table.Opcode.TheVariants as op

-- A tree of tests on neighbouring bits, from bit `at`, `wide` of them: where they are this number the first branch is
-- taken, and else the second.
pub data Choice : Type 0 where
  none : Choice
  only : Opcode → Choice
  first_is : (at wide number : ℕ) → Choice → Choice → Choice
  second_is : (at wide number : ℕ) → Choice → Choice → Choice

abbrev pub chosen : Choice → ℕ → ℕ → Option Opcode
chosen none first second = None
chosen (only o) first second = Some o
chosen (first_is at wide number this other) first second = cond (eqb (first / 2 ^ at % 2 ^ wide) number) (chosen this first second) (chosen other first second)
chosen (second_is at wide number this other) first second = cond (eqb (second / 2 ^ at % 2 ^ wide) number) (chosen this first second) (chosen other first second)

abbrev pub bx_choices : Choice
bx_choices =
    first_is 0 3 0b100 (first_is 7 1 1 (only op.Blxns) (only op.Bxns)) (only op.Bx)

abbrev pub narrow_choices : Choice
narrow_choices =
    first_is 8 8 0x46 (only op.Mov)
    (first_is 8 8 0x47 bx_choices
    (first_is 8 8 0xBF (only op.Nop)
    (first_is 8 8 0xDE (only op.Udf) none)))

abbrev pub tt_choices : Choice
tt_choices =
    second_is 6 2 0b00 (only op.Tt) (second_is 6 2 0b01 (only op.Ttt) (second_is 6 2 0b10 (only op.Tta) (only op.Ttat)))

abbrev pub register_choices : Choice
register_choices =
    first_is 4 7 0x04 tt_choices
    (first_is 4 7 0x0B (only op.Ldmia)
    (first_is 4 7 0x12 (only op.Stmdb)
    (first_is 4 7 0x17 (only op.Sg)
    (first_is 4 7 0x20 (only op.And)
    (first_is 4 7 0x22 (only op.Bic)
    (first_is 4 7 0x24 (only op.Orr)
    (first_is 4 7 0x26 (only op.Mvn)
    (first_is 4 7 0x28 (only op.Eor)
    (first_is 4 7 0x30 (only op.Add)
    (first_is 4 7 0x3A (only op.Sub)
    (first_is 4 7 0x3B (only op.Cmp)
    (first_is 4 7 0x3C (only op.Rsb) none))))))))))))

-- a condition of 14 or 15 in its place tells a special register's row from a branch
abbrev pub branch_choices : Choice
branch_choices =
    second_is 12 1 1
    (second_is 14 1 1 (only op.Bl) (only op.B))
    (first_is 7 3 0b111 (first_is 6 1 1 (only op.Mrs) (only op.Msr)) (only op.Bc))

abbrev pub number_choices : Choice
number_choices =
    first_is 4 6 0x20 (only op.Addw)
    (first_is 4 6 0x24 (only op.Movw)
    (first_is 4 6 0x2A (only op.Subw)
    (first_is 4 6 0x2C (only op.Movt) none)))

abbrev pub plain_choices : Choice
plain_choices =
    second_is 15 1 1 branch_choices number_choices

abbrev pub memory_choices : Choice
memory_choices =
    first_is 4 7 0x08 (only op.Strb)
    (first_is 4 7 0x09 (only op.Ldrb)
    (first_is 4 7 0x0A (only op.Strh)
    (first_is 4 7 0x0B (only op.Ldrh)
    (first_is 4 7 0x0C (only op.Str)
    (first_is 4 7 0x0D (only op.Ldr)
    (first_is 4 7 0x19 (only op.Ldrsb)
    (first_is 4 7 0x1B (only op.Ldrsh) none)))))))

abbrev pub shift_choices : Choice
shift_choices =
    first_is 4 7 0x20 (second_is 7 1 1 (only op.Sxth) (only op.Lsl))
    (first_is 4 7 0x21 (only op.Uxth)
    (first_is 4 7 0x22 (only op.Lsr)
    (first_is 4 7 0x24 (second_is 7 1 1 (only op.Sxtb) (only op.Asr))
    (first_is 4 7 0x25 (only op.Uxtb)
    (first_is 4 7 0x30 (second_is 4 1 1 (only op.Mls) (only op.Mul))
    (first_is 4 7 0x39 (only op.Sdiv)
    (first_is 4 7 0x3B (only op.Udiv) none)))))))

unfoldable pub choices : Choice
choices =
    first_is 11 5 0b11101 register_choices
    (first_is 11 5 0b11110 plain_choices
    (first_is 11 5 0b11111 (first_is 9 2 0b00 memory_choices shift_choices) narrow_choices))
