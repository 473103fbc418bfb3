-- Tags: what they mean, and their declarations (C11 6.7.2.2, 6.7.2.3).
use Rattle.std.specs.Prelude.{ℕ, ◌∷◌, ◌++◌, Bool, true, false, cond, ltb, is_some, List, [], length, drop, slice_get, slice_set, bytes_eq, Option, Some, None, Ok}
use Rattle.std.specs.List.{list_any}
use Rattle.cm_base.specs.declared.place.Place.{Place}
use Rattle.c_ast.specs.declared.expr.Name.{Name}
use Rattle.c_types.specs.Derived.{plain}
use Rattle.c_types.specs.declared.ctype.CType.{CType}
use Rattle.c_types.specs.declared.ctype.Shape.TheVariants as made
use Rattle.c_rows.specs.Answers.{Checked, fault}
use Rattle.c_scope.specs.declared.tables.Layout.{Layout}
use Rattle.c_scope.specs.declared.tables.Scope.{Scope}
use Rattle.c_scope.specs.declared.tables.StructInfo.{StructInfo}
use Rattle.c_scope.specs.declared.tables.Tables.{Tables}
use Rattle.c_scope.specs.declared.tables.Tag.{Tag}
use Rattle.c_scope.specs.declared.tables.Tag.TheVariants.{Struct, Enum}
use Rattle.c_scope.specs.declared.tables.TagInBlock.{TagInBlock}
use Rattle.c_scope.specs.Index.{added, place_of}
use Rattle.c_scope.specs.Layout.{rounded}
use Rattle.c_scope.specs.Lookup.{at_place}
use Rattle.c_scope.specs.Steps.{Step, ◌>>>◌, keeping, refuse}

-- the last of these tags that it is; found is what the tags before them say
abbrev pub newest_from : Option Tag → List TagInBlock → List ℕ → Option Tag
newest_from found [] text = found
newest_from found (b ∷ bs) text = newest_from (cond (bytes_eq b.name text) (Some b.tag) found) bs text

abbrev pub file_tag : Tables → List ℕ → Option Tag
file_tag s text = at_place s.tag_meanings (place_of s.tags text)

-- what a tag means: the innermost declaration counts
abbrev pub tag_of : Tables → List ℕ → Option Tag
tag_of s text = newest_from (file_tag s text) s.block_tags text

-- whether the innermost block declares a tag
abbrev pub is_in_block : List TagInBlock → ℕ → List ℕ → Bool
is_in_block tags from text = list_any (λ (b : TagInBlock). bytes_eq b.name text) (drop from tags)

-- what the innermost scope itself declares
abbrev pub tag_in : Scope → Tables → List ℕ → Option Tag
tag_in scope s text = cond scope.is_file (file_tag s text) (cond (is_in_block s.block_tags scope.tags text) (newest_from None s.block_tags text) None)

abbrev pub with_file_tag : List ℕ → Tag → Tables → Tables
with_file_tag text tag s = record s { tags = added s.tags text; tag_meanings = s.tag_meanings ++ tag ∷ [] }

abbrev pub with_block_tag : List ℕ → Tag → Tables → Tables
with_block_tag text tag s = record s { block_tags = s.block_tags ++ record { name = text; tag = tag } ∷ [] }

-- a tag declared in the innermost scope
abbrev pub with_tag : Scope → List ℕ → Tag → Tables → Tables
with_tag scope text tag s = cond scope.is_file (with_file_tag text tag s) (with_block_tag text tag s)

-- a struct whose members aren't known yet
abbrev pub unknown : List ℕ → Bool → StructInfo
unknown text is_defined = record { tag = text; size = 0; align = 0; members = []; is_defined = is_defined }

abbrev pub with_struct : StructInfo → Tables → Tables
with_struct info s = record s { structs = s.structs ++ info ∷ [] }

-- the type of a struct
abbrev pub struct_type : ℕ → StructInfo → CType
struct_type n i = plain (made.Struct n i.tag i.size i.align)

abbrev pub known_type : ℕ → Place → Option StructInfo → Checked CType
known_type n place (Some i) = Ok (struct_type n i)
known_type n place None = fault 20 place

-- a new struct with a tag in the innermost scope
abbrev pub first_seen : Scope → Name → Step CType
first_seen scope name s =
    Ok (struct_type (length s.structs) (unknown name.text false), with_tag scope name.text (Struct (length s.structs)) (with_struct (unknown name.text false) s))

-- `struct s`, where the tag means this
abbrev pub struct_as : Scope → Name → Option Tag → Step CType
struct_as scope name (Some (Struct n)) s = keeping s (known_type n name.place (slice_get s.structs n))
struct_as scope name (Some Enum) s = fault 20 name.place
struct_as scope name None s = first_seen scope name s

-- `struct s` in use: a tag first seen here is declared in the innermost scope
abbrev pub struct_use : Scope → Name → Step CType
struct_use scope name s = struct_as scope name (tag_of s name.text) s

-- `struct s;` by itself: it declares the tag in the innermost scope, even where an outer one has it
abbrev pub declare_struct : Scope → Name → Step CType
declare_struct scope name s = struct_as scope name (tag_in scope s name.text) s

-- the struct of this number begins its members
abbrev pub begun_again : ℕ → Name → Option StructInfo → Step ℕ
begun_again n name (Some i) s = refuse i.is_defined 21 name.place (Ok (n, record s { structs = slice_set s.structs n (unknown name.text true) }))
begun_again n name None s = fault 21 name.place

abbrev pub begun_as : Name → Option Tag → Step ℕ
begun_as name (Some (Struct n)) s = begun_again n name (slice_get s.structs n) s
begun_as name (Some Enum) s = fault 21 name.place
begun_as name None s = Ok (length s.structs, with_file_tag name.text (Struct (length s.structs)) (with_struct (unknown name.text true) s))

-- `struct s {` or `struct {` at file scope: a struct has its members once
abbrev pub begin_struct : Option Name → Step ℕ
begin_struct (Some name) s = begun_as name (file_tag s name.text) s
begin_struct None s = Ok (length s.structs, with_struct (unknown [] true) s)

-- a struct with these members; its size is a multiple of its alignment
abbrev pub finished : StructInfo → Layout → StructInfo
finished i l = record { tag = i.tag; size = rounded l.size l.align; align = l.align; members = l.members; is_defined = true }

abbrev pub ended : ℕ → Layout → Place → Option StructInfo → Step CType
ended n l place (Some i) s = Ok (struct_type n (finished i l), record s { structs = slice_set s.structs n (finished i l) })
ended n l place None s = fault 24 place

-- the end of a struct's members: it has at most 49,152 bytes
abbrev pub end_struct : ℕ → Layout → Place → Step CType
end_struct n l place s = refuse (ltb 49152 (rounded l.size l.align)) 24 place (ended n l place (slice_get s.structs n) s)

abbrev pub is_enum : Option Tag → Bool
is_enum (Some Enum) = true
is_enum (Some (Struct n)) = false
is_enum None = false

-- `enum e` in use
abbrev pub enum_use : Tables → Name → Checked (Unit {0})
enum_use s name = cond (is_enum (tag_of s name.text)) (Ok tt) (fault 20 name.place)

-- `enum e {` or `enum {` at file scope
abbrev pub begin_enum : Option Name → Step (Unit {0})
begin_enum (Some name) s = refuse (is_some (file_tag s name.text)) 21 name.place (Ok (tt, with_file_tag name.text Enum s))
begin_enum None s = Ok (tt, s)
