-- Which type the words of a declaration name (C11 6.7.2): the words so far, and each next word that goes with them.
use Rattle.std.specs.Prelude.{ℕ, Bool, true, false, not, ◌&&◌, ◌||◌, cond, is_some, Option, Some, None, Result, Ok, Err}
use Rattle.cm_base.specs.declared.place.Place.{Place}
use Rattle.c_ast.specs.declared.expr.SpecWord.{SpecWord}
use Rattle.c_ast.specs.declared.expr.SpecWord.TheVariants as word
use Rattle.c_types.specs.declared.arith.Arith.{Arith}
use Rattle.c_types.specs.declared.arith.Arith.TheVariants as a
use Rattle.c_types.specs.declared.ctype.CType.{CType}
use Rattle.c_types.specs.declared.ctype.Shape.TheVariants as shape
use Rattle.c_types.specs.Derived.{plain, arith_type, qualified}
use Rattle.c_rows.specs.Answers.{Checked, fault}
use Rattle.c_derive.specs.declared.specifiers.Base.{Base}
use Rattle.c_derive.specs.declared.specifiers.Base.TheVariants as base
use Rattle.c_derive.specs.declared.specifiers.Storage.{Storage}
use Rattle.c_derive.specs.declared.specifiers.Storage.TheVariants as storage
use Rattle.c_derive.specs.declared.specifiers.Words.{Words}

-- no word yet
abbrev pub no_words : Words
no_words = record { storage = None; inline = None; unsigned = None; base = base.Nothing; int = false; is_const = false; is_volatile = false }

abbrev pub is_nothing : Base → Bool
is_nothing base.Nothing = true
is_nothing _ = false

-- `int` may stand beside it
abbrev pub takes_int : Base → Bool
takes_int base.Nothing = true
takes_int base.Short = true
takes_int base.Long = true
takes_int _ = false

-- `signed` and `unsigned` may stand beside it
abbrev pub takes_sign : Base → Bool
takes_sign base.Char = true
takes_sign b = takes_int b

-- no word of a type yet
abbrev pub is_bare : Words → Bool
is_bare w = is_nothing w.base && (not w.int && not (is_some w.unsigned))

-- with this word, where it goes with those so far; a word that doesn't is the fault
abbrev pub if_goes : Bool → Place → Words → Checked Words
if_goes goes place w = cond goes (Ok w) (fault 27 place)

abbrev pub with_base : Words → Base → Words
with_base w b = record w { base = b }

-- there is no `long long`
abbrev pub with_long : Words → Base → Place → Checked Words
with_long w base.Nothing place = Ok (with_base w base.Long)
with_long w base.Long place = fault 29 place
with_long w _ place = fault 27 place

-- one storage class, where one may stand
abbrev pub with_storage : Bool → Words → Storage → Place → Checked Words
with_storage stored w s place = if_goes (stored && not (is_some w.storage)) place (record w { storage = Some s })

abbrev pub with_sign : Words → Bool → Place → Checked Words
with_sign w unsigned place = if_goes (takes_sign w.base && not (is_some w.unsigned)) place (record w { unsigned = Some unsigned })

-- stored: a storage class and inline may stand here
abbrev pub with_word : Bool → Words → SpecWord → Place → Checked Words
with_word stored w word.Typedef place = with_storage stored w storage.Typedef place
with_word stored w word.Extern place = with_storage stored w storage.Extern place
with_word stored w word.Static place = with_storage stored w storage.Static place
with_word stored w word.Inline place = if_goes stored place (record w { inline = Some place })
with_word stored w word.Const place = Ok (record w { is_const = true })
with_word stored w word.Volatile place = Ok (record w { is_volatile = true })
with_word stored w word.Void place = if_goes (is_bare w) place (with_base w base.Void)
with_word stored w word.Char place = if_goes (is_nothing w.base && not w.int) place (with_base w base.Char)
with_word stored w word.Short place = if_goes (is_nothing w.base) place (with_base w base.Short)
with_word stored w word.Int place = if_goes (takes_int w.base && not w.int) place (record w { int = true })
with_word stored w word.Long place = with_long w w.base place
with_word stored w word.Signed place = with_sign w false place
with_word stored w word.Unsigned place = with_sign w true place

-- a name of a type, a struct or an enum stands alone
abbrev pub with_type : Words → CType → Place → Checked Words
with_type w t place = if_goes (is_bare w) place (with_base w (base.Type t))

abbrev pub char_of : Option Bool → Arith
char_of None = a.Char
char_of (Some false) = a.SignedChar
char_of (Some true) = a.UnsignedChar

-- the signed type, or the unsigned one where `unsigned` stands
abbrev pub one_of : Arith → Arith → Option Bool → Arith
one_of usual other (Some true) = other
one_of usual other _ = usual

-- the type that the words name, without qualifiers; there is at least one word of a type
abbrev pub named : Words → Base → Place → Checked CType
named w base.Nothing first = cond (is_bare w) (fault 27 first) (Ok (arith_type (one_of a.Int a.Unsigned w.unsigned)))
named w base.Void first = Ok (plain shape.Void)
named w base.Char first = Ok (arith_type (char_of w.unsigned))
named w base.Short first = Ok (arith_type (one_of a.Short a.UnsignedShort w.unsigned))
named w base.Long first = Ok (arith_type (one_of a.Long a.UnsignedLong w.unsigned))
named w (base.Type t) first = Ok t

abbrev pub with_qualifiers : Words → Checked CType → Checked CType
with_qualifiers w (Ok t) = Ok (qualified w.is_const w.is_volatile t)
with_qualifiers w (Err e) = Err e

-- the type that the words name; first is the place of the first of them
abbrev pub specified : Words → Place → Checked CType
specified w first = with_qualifiers w (named w w.base first)
