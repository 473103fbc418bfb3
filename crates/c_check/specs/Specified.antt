-- The specifiers of a declaration so far (C11 6.7).
use Rattle.std.specs.Prelude.{ℕ, Bool, true, false, Option, Some, None, Ok}
use Rattle.cm_base.specs.declared.place.Place.{Place}
use Rattle.c_ast.specs.declared.expr.Attr.{Attr}
use Rattle.c_ast.specs.declared.expr.Name.{Name}
use Rattle.c_ast.specs.declared.expr.SpecWord.{SpecWord}
use Rattle.c_types.specs.declared.ctype.CType.{CType}
use Rattle.c_rows.specs.Answers.{Checked, ◌>>=◌}
use Rattle.cmse_rules.specs.declared.attributes.Attributes.{Attributes}
use Rattle.cmse_rules.specs.Attributes.{none, ones}
use Rattle.c_scope.specs.declared.tables.Tables.{Tables}
use Rattle.c_scope.specs.Lookup.{type_named}
use Rattle.c_derive.specs.declared.specifiers.Words.{Words}
use Rattle.c_derive.specs.Specifiers.{no_words, specified, with_type, with_word}
use Rattle.c_check.specs.declared.specified.Head.{Head}
use Rattle.c_check.specs.declared.specified.Specified.{Specified}

abbrev pub none_yet : Specified
none_yet = record { words = no_words; attributes = none; first = None; tagged = false }

abbrev pub begun : Option Place → Place → Option Place
begun None place = Some place
begun (Some first) place = Some first

abbrev pub first_or : Option Place → Place
first_or (Some place) = place
first_or None = record { unit = 0; line = 0; col = 0 }

-- the place of the first specifier
abbrev pub start_of : Specified → Place
start_of it = first_or it.first

-- the type before the declarators
abbrev pub base_of : Specified → Checked CType
base_of it = specified it.words (start_of it)

-- ---- with one more

abbrev pub with_words : Specified → Place → Words → Specified
with_words it place ws = record it { words = ws; first = begun it.first place }

abbrev pub named_type : Specified → Place → CType → Checked Specified
named_type it place ty = with_type it.words ty place >>= (λ ws. Ok (with_words it place ws))

abbrev pub tagged_type : Specified → Place → CType → Checked Specified
tagged_type it place ty = named_type it place ty >>= (λ more. Ok (record more { tagged = true }))

abbrev pub with_attributes : Specified → Place → Attributes → Specified
with_attributes it place attrs = record it { attributes = attrs; first = begun it.first place }

abbrev pub worded : Specified → Place → SpecWord → Bool → Checked Specified
worded it place w stored = with_word stored it.words w place >>= (λ ws. Ok (with_words it place ws))

-- the name of a type
abbrev pub with_name : Tables → Name → Specified → Checked Specified
with_name s name it = type_named s name >>= named_type it name.place

-- attributes
abbrev pub with_attr : Attr → Specified → Checked Specified
with_attr a it = ones a.list it.attributes >>= (λ all. Ok (with_attributes it a.place all))

-- ---- and all of them

-- the type before the declarators, with the attributes and the place of the first specifier
abbrev pub head_of : Specified → Checked Head
head_of it = base_of it >>= (λ t. Ok (record { base = t; attributes = it.attributes; first = start_of it }))
