-- The exported functions, which a host links, meet the contracts of pws's functions: to each a caller has to show the same and learns the same. So what demands
-- says of pws's contracts (specs/EntryPoints there) is said of them: they ask for nothing, say their promises and admit one outcome only.
-- It stands here, since no crate can stand on a C library, and in proofs/, since only these can name a crate's own contracts.
use Rattle.std.proofs.Common.{◌≡◌, refl}
use Rattle.pws.proofs.pws_build.Reads as build
use Rattle.pws.proofs.pws_convert.Reads as convert
use Rattle.pws.proofs.pws_apply.Reads as apply
use Rattle.pws.proofs.pws_read.Reads as read
use Rattle.pws.proofs.pws_write.Reads as write
use Rattle.pws.proofs.pws_item.Reads as item
use Rattle.pws.proofs.pws_segment.Reads as segment
use Rattle.pws.proofs.pws_pack.Reads as pack
use Rattle.pws.proofs.pws_read_cancel.Reads as read_cancel
use Rattle.pws.proofs.pws_write_response.Reads as write_response
use Rattle.pws.proofs.pws_read_response.Reads as read_response
use Rattle.pws_c.proofs.pws_build.Reads as exported_build
use Rattle.pws_c.proofs.pws_convert.Reads as exported_convert
use Rattle.pws_c.proofs.pws_apply.Reads as exported_apply
use Rattle.pws_c.proofs.pws_read.Reads as exported_read
use Rattle.pws_c.proofs.pws_write.Reads as exported_write
use Rattle.pws_c.proofs.pws_item.Reads as exported_item
use Rattle.pws_c.proofs.pws_segment.Reads as exported_segment
use Rattle.pws_c.proofs.pws_pack.Reads as exported_pack
use Rattle.pws_c.proofs.pws_read_cancel.Reads as exported_read_cancel
use Rattle.pws_c.proofs.pws_write_response.Reads as exported_write_response
use Rattle.pws_c.proofs.pws_read_response.Reads as exported_read_response
use Rattle.pws_c.proofs.pws_build.Statement as code_of_build
use Rattle.pws_c.proofs.pws_convert.Statement as code_of_convert
use Rattle.pws_c.proofs.pws_apply.Statement as code_of_apply
use Rattle.pws_c.proofs.pws_read.Statement as code_of_read
use Rattle.pws_c.proofs.pws_write.Statement as code_of_write
use Rattle.pws_c.proofs.pws_item.Statement as code_of_item
use Rattle.pws_c.proofs.pws_segment.Statement as code_of_segment
use Rattle.pws_c.proofs.pws_pack.Statement as code_of_pack
use Rattle.pws_c.proofs.pws_read_cancel.Statement as code_of_read_cancel
use Rattle.pws_c.proofs.pws_write_response.Statement as code_of_write_response
use Rattle.pws_c.proofs.pws_read_response.Statement as code_of_read_response
use Rattle.pws_c.proofs.pws_build.Met as proof_of_build
use Rattle.pws_c.proofs.pws_convert.Met as proof_of_convert
use Rattle.pws_c.proofs.pws_apply.Met as proof_of_apply
use Rattle.pws_c.proofs.pws_read.Met as proof_of_read
use Rattle.pws_c.proofs.pws_write.Met as proof_of_write
use Rattle.pws_c.proofs.pws_item.Met as proof_of_item
use Rattle.pws_c.proofs.pws_segment.Met as proof_of_segment
use Rattle.pws_c.proofs.pws_pack.Met as proof_of_pack
use Rattle.pws_c.proofs.pws_read_cancel.Met as proof_of_read_cancel
use Rattle.pws_c.proofs.pws_write_response.Met as proof_of_write_response
use Rattle.pws_c.proofs.pws_read_response.Met as proof_of_read_response

-- a caller has the same to show
pub record AsksTheSame : Type 1 where
  pub build_asks : exported_build.Asked ≡ build.Asked
  pub convert_asks : exported_convert.Asked ≡ convert.Asked
  pub apply_asks : exported_apply.Asked ≡ apply.Asked
  pub read_asks : exported_read.Asked ≡ read.Asked
  pub write_asks : exported_write.Asked ≡ write.Asked
  pub item_asks : exported_item.Asked ≡ item.Asked
  pub segment_asks : exported_segment.Asked ≡ segment.Asked
  pub pack_asks : exported_pack.Asked ≡ pack.Asked
  pub read_cancel_asks : exported_read_cancel.Asked ≡ read_cancel.Asked
  pub write_response_asks : exported_write_response.Asked ≡ write_response.Asked
  pub read_response_asks : exported_read_response.Asked ≡ read_response.Asked

-- a caller learns the same
pub record SaysTheSame : Type 1 where
  pub build_says : exported_build.Learnt ≡ build.Learnt
  pub convert_says : exported_convert.Learnt ≡ convert.Learnt
  pub apply_says : exported_apply.Learnt ≡ apply.Learnt
  pub read_says : exported_read.Learnt ≡ read.Learnt
  pub write_says : exported_write.Learnt ≡ write.Learnt
  pub item_says : exported_item.Learnt ≡ item.Learnt
  pub segment_says : exported_segment.Learnt ≡ segment.Learnt
  pub pack_says : exported_pack.Learnt ≡ pack.Learnt
  pub read_cancel_says : exported_read_cancel.Learnt ≡ read_cancel.Learnt
  pub write_response_says : exported_write_response.Learnt ≡ write_response.Learnt
  pub read_response_says : exported_read_response.Learnt ≡ read_response.Learnt

-- the code comes back with what its contract says, at every model of the machine
pub record CodeMeets : Type 2 where
  pub build_meets : {M : Type 1} → code_of_build.statement M
  pub convert_meets : {M : Type 1} → code_of_convert.statement M
  pub apply_meets : {M : Type 1} → code_of_apply.statement M
  pub read_meets : {M : Type 1} → code_of_read.statement M
  pub write_meets : {M : Type 1} → code_of_write.statement M
  pub item_meets : {M : Type 1} → code_of_item.statement M
  pub segment_meets : {M : Type 1} → code_of_segment.statement M
  pub pack_meets : {M : Type 1} → code_of_pack.statement M
  pub read_cancel_meets : {M : Type 1} → code_of_read_cancel.statement M
  pub write_response_meets : {M : Type 1} → code_of_write_response.statement M
  pub read_response_meets : {M : Type 1} → code_of_read_response.statement M

pub asks_the_same : AsksTheSame
asks_the_same =
    record {
      build_asks = refl;
      convert_asks = refl;
      apply_asks = refl;
      read_asks = refl;
      write_asks = refl;
      item_asks = refl;
      segment_asks = refl;
      pack_asks = refl;
      read_cancel_asks = refl;
      write_response_asks = refl;
      read_response_asks = refl;
    }

pub says_the_same : SaysTheSame
says_the_same =
    record {
      build_says = refl;
      convert_says = refl;
      apply_says = refl;
      read_says = refl;
      write_says = refl;
      item_says = refl;
      segment_says = refl;
      pack_says = refl;
      read_cancel_says = refl;
      write_response_says = refl;
      read_response_says = refl;
    }

pub code_meets : CodeMeets
code_meets =
    record {
      build_meets = proof_of_build.met;
      convert_meets = proof_of_convert.met;
      apply_meets = proof_of_apply.met;
      read_meets = proof_of_read.met;
      write_meets = proof_of_write.met;
      item_meets = proof_of_item.met;
      segment_meets = proof_of_segment.met;
      pack_meets = proof_of_pack.met;
      read_cancel_meets = proof_of_read_cancel.met;
      write_response_meets = proof_of_write_response.met;
      read_response_meets = proof_of_read_response.met;
    }
