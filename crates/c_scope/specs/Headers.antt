-- What the headers declare (C11 7.20, and arm_cmse.h of ECM0359818).
use Rattle.std.specs.Prelude.{ℕ, ◌∷◌, Bool, true, cond, List, [], codes, Ok}
use Rattle.cm_base.specs.declared.place.Place.{Place}
use Rattle.c_lex.specs.declared.token.Header.{Header}
use Rattle.c_lex.specs.declared.token.Header.TheVariants.{StdInt, ArmCmse}
use Rattle.c_types.specs.Derived.{arith_type}
use Rattle.c_types.specs.declared.arith.Arith.{Arith}
use Rattle.c_types.specs.declared.arith.Arith.TheVariants as a
use Rattle.c_rows.specs.declared.intrinsics.Intrinsic.TheVariants as call
use Rattle.c_rows.specs.Answers.{fault}
use Rattle.c_scope.specs.declared.headers.HeaderName.{HeaderName}
use Rattle.c_scope.specs.declared.headers.HeaderName.TheVariants as name
use Rattle.c_scope.specs.declared.tables.Meaning.{Meaning}
use Rattle.c_scope.specs.declared.tables.Meaning.TheVariants.{Constant, Null, Typedef, Intrinsic}
use Rattle.c_scope.specs.declared.tables.Tables.{Tables}
use Rattle.c_scope.specs.FileScope.{is_declared, with_meaning}
use Rattle.c_scope.specs.Steps.{Step, ◌>>>◌, refuse}

abbrev pub type_of : Arith → Meaning
type_of k = Typedef (arith_type k)

abbrev pub text_of : HeaderName → List ℕ
text_of name.Int8T = codes "int8_t"
text_of name.Uint8T = codes "uint8_t"
text_of name.Int16T = codes "int16_t"
text_of name.Uint16T = codes "uint16_t"
text_of name.Int32T = codes "int32_t"
text_of name.Uint32T = codes "uint32_t"
text_of name.IntptrT = codes "intptr_t"
text_of name.UintptrT = codes "uintptr_t"
text_of name.SizeT = codes "size_t"
text_of name.NullPointer = codes "NULL"
text_of name.MpuReadWrite = codes "CMSE_MPU_READWRITE"
text_of name.AuNonsecure = codes "CMSE_AU_NONSECURE"
text_of name.MpuUnpriv = codes "CMSE_MPU_UNPRIV"
text_of name.MpuRead = codes "CMSE_MPU_READ"
text_of name.MpuNonsecure = codes "CMSE_MPU_NONSECURE"
text_of name.Nonsecure = codes "CMSE_NONSECURE"
text_of name.CheckAddressRange = codes "cmse_check_address_range"
text_of name.CheckPointedObject = codes "cmse_check_pointed_object"
text_of name.NsfptrCreate = codes "cmse_nsfptr_create"
text_of name.IsNsfptr = codes "cmse_is_nsfptr"
text_of name.NonsecureCaller = codes "cmse_nonsecure_caller"

abbrev pub meaning_of : HeaderName → Meaning
meaning_of name.Int8T = type_of a.SignedChar
meaning_of name.Uint8T = type_of a.UnsignedChar
meaning_of name.Int16T = type_of a.Short
meaning_of name.Uint16T = type_of a.UnsignedShort
meaning_of name.Int32T = type_of a.Int
meaning_of name.Uint32T = type_of a.Unsigned
meaning_of name.IntptrT = type_of a.Int
meaning_of name.UintptrT = type_of a.Unsigned
meaning_of name.SizeT = type_of a.Unsigned
meaning_of name.NullPointer = Null
meaning_of name.MpuReadWrite = Constant 1
meaning_of name.AuNonsecure = Constant 2
meaning_of name.MpuUnpriv = Constant 4
meaning_of name.MpuRead = Constant 8
meaning_of name.MpuNonsecure = Constant 16
meaning_of name.Nonsecure = Constant 18
meaning_of name.CheckAddressRange = Intrinsic call.CheckRange
meaning_of name.CheckPointedObject = Intrinsic call.CheckObject
meaning_of name.NsfptrCreate = Intrinsic call.CreatePointer
meaning_of name.IsNsfptr = Intrinsic call.IsPointer
meaning_of name.NonsecureCaller = Intrinsic call.Caller

-- stdint.h
abbrev pub std_int : List HeaderName
std_int = name.Int8T ∷ name.Uint8T ∷ name.Int16T ∷ name.Uint16T ∷ name.Int32T ∷ name.Uint32T ∷ name.IntptrT ∷ name.UintptrT ∷ []

abbrev pub arm_cmse : List HeaderName
arm_cmse = name.SizeT ∷ name.NullPointer ∷ name.MpuReadWrite ∷ name.AuNonsecure ∷ name.MpuUnpriv ∷ name.MpuRead ∷ name.MpuNonsecure ∷ name.Nonsecure ∷ name.CheckAddressRange ∷ name.CheckPointedObject ∷ name.NsfptrCreate ∷ name.IsNsfptr ∷ name.NonsecureCaller ∷ []

-- a name that a header declares
unfoldable pub header_name : HeaderName → Place → Step (Unit {0})
header_name n place s = refuse (is_declared s (text_of n)) 21 place (Ok (tt, with_meaning (text_of n) (meaning_of n) s))

abbrev pub header_names : List HeaderName → Place → Step (Unit {0})
header_names [] place s = Ok (tt, s)
header_names (n ∷ more) place s = header_name n place s >>> (λ _ u. header_names more place u)

-- An include: a repeated one says nothing.
abbrev pub include : Header → Place → Step (Unit {0})
include StdInt place s = cond s.has_std_int (Ok (tt, s)) (header_names std_int place (record s { has_std_int = true }))
include ArmCmse place s = cond s.has_arm_cmse (Ok (tt, s)) (header_names arm_cmse place (record s { has_arm_cmse = true }))
