-- What a record keeps to be sent: first the widths of its components, then two rules.
use Rattle.std.specs.Prelude.{◌≡◌, ℕ, ◌-◌, ◌^◌, ◌<◌, Bool, true, cond, not, ◌&&◌, ◌||◌, List, ℤ, pos, negsuc, Ok, Err, Result, nat_lt}
use Rattle.fault.specs.declared.Fault.{Fault}
use Rattle.fault.specs.declared.Fault.TheVariants.{ComponentWidth, RecordRule}
use Rattle.fault.specs.Refusing.{then}
use Rattle.record.specs.declared.record.Record.{Record}
use Rattle.record.specs.declared.record.Block.{Block}
use Rattle.record.specs.Layout.{Mv000, Mv001, Mv010, Mv011, Mv100, Mv101, Mv110, Mv111, MotionType, NumOtherBits, NumMvBits, QScaleCode, MbVertFieldSel, NumCoefBits, CodedBlockPattern, width_of, data_rows}

-- a number fits w bits, and a signed number fits w bits in two's complement; negsuc n is -(n + 1)
abbrev pub fits : ℕ → ℕ → Bool
fits w x = nat_lt x (2 ^ w)

abbrev pub fits_signed : ℕ → ℤ → Bool
fits_signed w (pos n) = nat_lt n (2 ^ (w - 1))
fits_signed w (negsuc n) = nat_lt n (2 ^ (w - 1))

-- the horizontal components of the vectors, the vertical ones, the counts of bits, and the codes
abbrev pub horizontals_fit : Record → Bool
horizontals_fit r =
    fits_signed (width_of Mv000) r.mv000 && fits_signed (width_of Mv010) r.mv010 && fits_signed (width_of Mv100) r.mv100
    && fits_signed (width_of Mv110) r.mv110

abbrev pub verticals_fit : Record → Bool
verticals_fit r =
    fits_signed (width_of Mv001) r.mv001 && fits_signed (width_of Mv011) r.mv011 && fits_signed (width_of Mv101) r.mv101
    && fits_signed (width_of Mv111) r.mv111

abbrev pub counts_fit : Record → Bool
counts_fit r =
    fits (width_of NumOtherBits) r.num_other_bits && fits (width_of NumMvBits) r.num_mv_bits
    && fits (width_of NumCoefBits) r.num_coef_bits

abbrev pub codes_fit : Record → Bool
codes_fit r =
    fits (width_of MotionType) r.motion_type && fits (width_of QScaleCode) r.q_scale_code
    && fits (width_of MbVertFieldSel) r.mb_vert_field_sel && fits (width_of CodedBlockPattern) r.coded_block_pattern

-- every component fits its width; a flag always does
unfoldable pub fits_widths : Record → Bool
fits_widths r = horizontals_fit r && verticals_fit r && counts_fit r && codes_fit r

-- the same, component by component: what the encoder's rows ask of a record
pub record Within (r : Record) : Type 0 where
  pub mv000 : fits_signed (width_of Mv000) r.mv000 ≡ true
  pub mv001 : fits_signed (width_of Mv001) r.mv001 ≡ true
  pub mv010 : fits_signed (width_of Mv010) r.mv010 ≡ true
  pub mv011 : fits_signed (width_of Mv011) r.mv011 ≡ true
  pub mv100 : fits_signed (width_of Mv100) r.mv100 ≡ true
  pub mv101 : fits_signed (width_of Mv101) r.mv101 ≡ true
  pub mv110 : fits_signed (width_of Mv110) r.mv110 ≡ true
  pub mv111 : fits_signed (width_of Mv111) r.mv111 ≡ true
  pub motion_type : r.motion_type < 2 ^ width_of MotionType
  pub num_other_bits : r.num_other_bits < 2 ^ width_of NumOtherBits
  pub num_mv_bits : r.num_mv_bits < 2 ^ width_of NumMvBits
  pub q_scale_code : r.q_scale_code < 2 ^ width_of QScaleCode
  pub mb_vert_field_sel : r.mb_vert_field_sel < 2 ^ width_of MbVertFieldSel
  pub num_coef_bits : r.num_coef_bits < 2 ^ width_of NumCoefBits
  pub coded_block_pattern : r.coded_block_pattern < 2 ^ width_of CodedBlockPattern

-- An intra macroblock is not predicted and has no pattern. A skipped one has no quantiser and no pattern, is not intra and starts no slice.
abbrev pub intra_kept : Record → Bool
intra_kept r = not (r.mb_intra && (r.mb_mfwd || r.mb_mbwd || r.mb_pattern))

abbrev pub skipped_kept : Record → Bool
skipped_kept r = not (r.skipped_mb && (r.mb_quant || r.mb_pattern || r.mb_intra || r.slice_start_flag))

unfoldable pub keeps_rules : Record → Bool
keeps_rules r = intra_kept r && skipped_kept r

-- the answer of the check
abbrev pub checked : Record → Result (Unit {0}) Fault
checked r = cond (fits_widths r) (cond (keeps_rules r) (Ok tt) (Err RecordRule)) (Err ComponentWidth)

-- the answer of the encoder
abbrev pub encoded : Block → Result (List ℕ) Fault
encoded b = then (checked b.«record») (λ _. Ok (data_rows b))
