-- One outcome only: what a public function of this crate returns or leaves, its contract settles.
-- Each promise is an equation between what is returned or left and a definition, so it admits one outcome.
use mathlib.Core.Path.{◌≡◌, refl, sym, ◌∙◌}
use denote.Exit.{no}
use denote.Param.{arg}
use denote.Param.Laws.{Laws, of_field, arg_laws}
use denote.Param.Shared.{copy_shared}
use denote.RattleType.{RattleType}
use denote.Struct.Field.{u8-field, u16-field, u32-field, u64-field}
use denote.Struct.Laws.{u8-laws, u16-laws, u32-laws, u64-laws, u8-copy, u16-copy, u32-copy, u64-copy}
use mir.Syntax.{Dict, ty_int, w8, w16, w32, w64}
use Rattle.octets.specs.Settled.{Settles, SettlesResult}
use Rattle.octets.specs.declared.number.Number.{Ghosts}
use Rattle.octets.specs.contracts.number.U8Number.TheImpl as u8
use Rattle.octets.specs.contracts.number.U16Number.TheImpl as u16
use Rattle.octets.specs.contracts.number.U32Number.TheImpl as u32
use Rattle.octets.specs.contracts.number.U64Number.TheImpl as u64
use Rattle.octets.proofs.number.U8Number.read.Reads as read8
use Rattle.octets.proofs.number.U16Number.read.Reads as read16
use Rattle.octets.proofs.number.U32Number.read.Reads as read32
use Rattle.octets.proofs.number.U64Number.read.Reads as read64
use Rattle.octets.proofs.number.U8Number.write.Reads as write8
use Rattle.octets.proofs.number.U16Number.write.Reads as write16
use Rattle.octets.proofs.number.U32Number.write.Reads as write32
use Rattle.octets.proofs.number.U64Number.write.Reads as write64
use Rattle.octets.proofs.get.Reads as get
use Rattle.octets.proofs.get24.Reads as get24
use Rattle.octets.proofs.any64.Reads as any64
use Rattle.octets.proofs.turned64.Reads as turned64
use Rattle.octets.proofs.says64.Reads as says64
use Rattle.octets.proofs.put.Reads as put
use Rattle.octets.proofs.copy.Reads as copy

pub one-outcome : {A : Type 0} {x y z : A} → x ≡ z → y ≡ z → x ≡ y
one-outcome p q = p ∙ sym q

-- two parts of an outcome
pub both_once : {A B : Type 0} {x y : A} {a b : B} → x ≡ y → a ≡ b → ◌≡◌ {A = A × B} (x, a) (y, b)
both_once p q i = (p i, q i)

-- ---- what is returned

-- a number that no other of its type has the value of
pub get_once : (T : RattleType) (laws : Laws T) (N : Ghosts T.Denot) (dict : Dict) → ((x y : T.Denot) → N.value x ≡ N.value y → x ≡ y)
    → SettlesResult (get.Learnt T laws N dict)
get_once T laws N dict apart κ args r s e f p q = apart r s (one-outcome p q)

-- the types of one, two, four and eight bytes, as types of a parameter, and what a caller shows of each
abbrev U8 : RattleType
U8 = arg (ty_int w8) no u8-field.row

abbrev shown8 : Laws U8
shown8 = arg_laws (ty_int w8) no u8-field.row (of_field u8-field u8-laws refl (copy_shared u8-field u8-copy)) refl

abbrev U16 : RattleType
U16 = arg (ty_int w16) no u16-field.row

abbrev shown16 : Laws U16
shown16 = arg_laws (ty_int w16) no u16-field.row (of_field u16-field u16-laws refl (copy_shared u16-field u16-copy)) refl

abbrev U32 : RattleType
U32 = arg (ty_int w32) no u32-field.row

abbrev shown32 : Laws U32
shown32 = arg_laws (ty_int w32) no u32-field.row (of_field u32-field u32-laws refl (copy_shared u32-field u32-copy)) refl

abbrev U64 : RattleType
U64 = arg (ty_int w64) no u64-field.row

abbrev shown64 : Laws U64
shown64 = arg_laws (ty_int w64) no u64-field.row (of_field u64-field u64-laws refl (copy_shared u64-field u64-copy)) refl

pub get8_once : SettlesResult (get.Learnt U8 shown8 u8.ghosts u8.dict)
get8_once κ args r s e f = one-outcome

pub get16_once : SettlesResult (get.Learnt U16 shown16 u16.ghosts u16.dict)
get16_once κ args r s e f = one-outcome

pub get32_once : SettlesResult (get.Learnt U32 shown32 u32.ghosts u32.dict)
get32_once κ args r s e f = one-outcome

pub get64_once : SettlesResult (get.Learnt U64 shown64 u64.ghosts u64.dict)
get64_once κ args r s e f = one-outcome

-- of one type: the number that all of its bytes say
pub read8_once : SettlesResult read8.Learnt
read8_once κ args r s e f = one-outcome

pub read16_once : SettlesResult read16.Learnt
read16_once κ args r s e f = one-outcome

pub read32_once : SettlesResult read32.Learnt
read32_once κ args r s e f = one-outcome

pub read64_once : SettlesResult read64.Learnt
read64_once κ args r s e f = one-outcome

pub get24_once : SettlesResult get24.Learnt
get24_once κ args r s e f = one-outcome

pub any64_once : SettlesResult any64.Learnt
any64_once κ args r s e f = one-outcome

pub turned64_once : SettlesResult turned64.Learnt
turned64_once κ args r s e f = one-outcome

pub says64_once : SettlesResult says64.Learnt
says64_once κ args r s e f = one-outcome

-- ---- what is left in the slice

pub put_once : (T : RattleType) (laws : Laws T) (N : Ghosts T.Denot) (dict : Dict) → Settles (put.Learnt T laws N dict) (λ κ r e. e.0.now)
put_once T laws N dict κ args r s e f = one-outcome

pub put8_once : Settles (put.Learnt U8 shown8 u8.ghosts u8.dict) (λ κ r e. e.0.now)
put8_once = put_once U8 shown8 u8.ghosts u8.dict

pub put16_once : Settles (put.Learnt U16 shown16 u16.ghosts u16.dict) (λ κ r e. e.0.now)
put16_once = put_once U16 shown16 u16.ghosts u16.dict

pub put32_once : Settles (put.Learnt U32 shown32 u32.ghosts u32.dict) (λ κ r e. e.0.now)
put32_once = put_once U32 shown32 u32.ghosts u32.dict

pub put64_once : Settles (put.Learnt U64 shown64 u64.ghosts u64.dict) (λ κ r e. e.0.now)
put64_once = put_once U64 shown64 u64.ghosts u64.dict

-- of one type: all of its bytes
pub write8_once : Settles write8.Learnt (λ κ r e. e.1.0.now)
write8_once κ args r s e f = one-outcome

pub write16_once : Settles write16.Learnt (λ κ r e. e.1.0.now)
write16_once κ args r s e f = one-outcome

pub write32_once : Settles write32.Learnt (λ κ r e. e.1.0.now)
write32_once κ args r s e f = one-outcome

pub write64_once : Settles write64.Learnt (λ κ r e. e.1.0.now)
write64_once κ args r s e f = one-outcome

pub copy_once : Settles copy.Learnt (λ κ r e. e.0.now)
copy_once κ args r s e f = one-outcome
