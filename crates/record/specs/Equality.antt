-- When two records, flags of pictures, and blocks are equal: exactly when all their parts are. The tests are those of the derived `==`.
use Rattle.std.specs.Prelude.{◌≡◌, ℕ, Bool, true, ◌&&◌, ◌==◌, ℤ}
use Rattle.std.specs.Bool.{Decides, beq}
use Rattle.std.specs.Cmp.{IsEquivalence, decided, booleans_Decides, signed_Decides, unsigned_Decides, bool_eq_equiv, nat_eq_equiv}
use Rattle.std.proofs.lemmas.Cmp.{int_eq_equiv}
use Rattle.std.specs.Ordering.{int_eq}
use Rattle.std.proofs.lemmas.Bool.{and_parts}
use Rattle.record.specs.declared.record.Record.{Record}
use Rattle.record.specs.declared.record.PictureFlags.{PictureFlags}
use Rattle.record.specs.declared.record.Block.{Block}

abbrev pub is_same_record : Record → Record → Bool
is_same_record r s =
    beq r.mb_quant s.mb_quant
    && (beq r.mb_mfwd s.mb_mfwd
    && (beq r.mb_mbwd s.mb_mbwd
    && (beq r.mb_pattern s.mb_pattern
    && (beq r.mb_intra s.mb_intra
    && (beq r.dct_type s.dct_type
    && (int_eq r.mv000 s.mv000
    && (int_eq r.mv001 s.mv001
    && (int_eq r.mv010 s.mv010
    && (int_eq r.mv011 s.mv011
    && (int_eq r.mv100 s.mv100
    && (int_eq r.mv101 s.mv101
    && (int_eq r.mv110 s.mv110
    && (int_eq r.mv111 s.mv111
    && (r.motion_type == s.motion_type
    && (beq r.skipped_mb s.skipped_mb
    && (r.num_other_bits == s.num_other_bits
    && (beq r.slice_start_flag s.slice_start_flag
    && (r.num_mv_bits == s.num_mv_bits
    && (r.q_scale_code == s.q_scale_code
    && (r.mb_vert_field_sel == s.mb_vert_field_sel
    && (r.num_coef_bits == s.num_coef_bits
    && r.coded_block_pattern == s.coded_block_pattern)))))))))))))))))))))

abbrev pub is_same_flags : PictureFlags → PictureFlags → Bool
is_same_flags p q =
    beq p.fr_fl_srib q.fr_fl_srib
    && (beq p.top_field_first q.top_field_first
    && (beq p.repeat_first_field q.repeat_first_field
    && (beq p.chroma_422_420 q.chroma_422_420
    && beq p.q_scale_type q.q_scale_type)))

abbrev pub is_same_block : Block → Block → Bool
is_same_block a b =
    is_same_flags a.picture b.picture
    && (a.reference == b.reference
    && (a.element == b.element
    && is_same_record a.«record» b.«record»))

-- What follows from equal parts follows from their tests: the first part, and then the others.
module _ {others : Bool} {Q : Type 0} where
  part : {A : Type 0} {x y : A} (test : Bool) → Decides test (x ≡ y) → (x ≡ y → others ≡ true → Q) → (test && others) ≡ true → Q
  part test d rest e = let p = and_parts test others e in rest (d.0 p.0) p.1

  flag : (x y : Bool) → (x ≡ y → others ≡ true → Q) → (beq x y && others) ≡ true → Q
  flag x y = part (beq x y) (booleans_Decides x y)

  vector : (x y : ℤ) → (x ≡ y → others ≡ true → Q) → (int_eq x y && others) ≡ true → Q
  vector x y = part (int_eq x y) (signed_Decides x y)

  number : (x y : ℕ) → (x ≡ y → others ≡ true → Q) → (x == y && others) ≡ true → Q
  number x y = part (x == y) (unsigned_Decides x y)

same_record : (r s : Record) → is_same_record r s ≡ true → r ≡ s
same_record r s =
    flag r.mb_quant s.mb_quant λ mb_quant.
    flag r.mb_mfwd s.mb_mfwd λ mb_mfwd.
    flag r.mb_mbwd s.mb_mbwd λ mb_mbwd.
    flag r.mb_pattern s.mb_pattern λ mb_pattern.
    flag r.mb_intra s.mb_intra λ mb_intra.
    flag r.dct_type s.dct_type λ dct_type.
    vector r.mv000 s.mv000 λ mv000.
    vector r.mv001 s.mv001 λ mv001.
    vector r.mv010 s.mv010 λ mv010.
    vector r.mv011 s.mv011 λ mv011.
    vector r.mv100 s.mv100 λ mv100.
    vector r.mv101 s.mv101 λ mv101.
    vector r.mv110 s.mv110 λ mv110.
    vector r.mv111 s.mv111 λ mv111.
    number r.motion_type s.motion_type λ motion_type.
    flag r.skipped_mb s.skipped_mb λ skipped_mb.
    number r.num_other_bits s.num_other_bits λ num_other_bits.
    flag r.slice_start_flag s.slice_start_flag λ slice_start_flag.
    number r.num_mv_bits s.num_mv_bits λ num_mv_bits.
    number r.q_scale_code s.q_scale_code λ q_scale_code.
    number r.mb_vert_field_sel s.mb_vert_field_sel λ mb_vert_field_sel.
    number r.num_coef_bits s.num_coef_bits λ num_coef_bits.
    λ e i. record {
      mb_quant = mb_quant i;
      mb_mfwd = mb_mfwd i;
      mb_mbwd = mb_mbwd i;
      mb_pattern = mb_pattern i;
      mb_intra = mb_intra i;
      dct_type = dct_type i;
      mv000 = mv000 i;
      mv001 = mv001 i;
      mv010 = mv010 i;
      mv011 = mv011 i;
      mv100 = mv100 i;
      mv101 = mv101 i;
      mv110 = mv110 i;
      mv111 = mv111 i;
      motion_type = motion_type i;
      skipped_mb = skipped_mb i;
      num_other_bits = num_other_bits i;
      slice_start_flag = slice_start_flag i;
      num_mv_bits = num_mv_bits i;
      q_scale_code = q_scale_code i;
      mb_vert_field_sel = mb_vert_field_sel i;
      num_coef_bits = num_coef_bits i;
      coded_block_pattern = (unsigned_Decides r.coded_block_pattern s.coded_block_pattern).0 e i;
    }

pub is_same_record_decides : (r s : Record) → Decides (is_same_record r s) (r ≡ s)
is_same_record_decides r s = (same_record r s, λ e. rw (← e) (simp (bool_eq_equiv.refl, int_eq_equiv.refl, nat_eq_equiv.refl)))

same_flags : (p q : PictureFlags) → is_same_flags p q ≡ true → p ≡ q
same_flags p q =
    flag p.fr_fl_srib q.fr_fl_srib λ fr_fl_srib.
    flag p.top_field_first q.top_field_first λ top_field_first.
    flag p.repeat_first_field q.repeat_first_field λ repeat_first_field.
    flag p.chroma_422_420 q.chroma_422_420 λ chroma_422_420.
    λ e i. record {
      fr_fl_srib = fr_fl_srib i;
      top_field_first = top_field_first i;
      repeat_first_field = repeat_first_field i;
      chroma_422_420 = chroma_422_420 i;
      q_scale_type = (booleans_Decides p.q_scale_type q.q_scale_type).0 e i;
    }

pub is_same_flags_decides : (p q : PictureFlags) → Decides (is_same_flags p q) (p ≡ q)
is_same_flags_decides p q = (same_flags p q, λ e. rw (← e) (simp bool_eq_equiv.refl))

same_block : (a b : Block) → is_same_block a b ≡ true → a ≡ b
same_block a b =
    part _ (is_same_flags_decides a.picture b.picture) λ picture.
    number a.reference b.reference λ reference.
    number a.element b.element λ element.
    λ e i. record { picture = picture i; reference = reference i; element = element i; «record» = same_record a.«record» b.«record» e i }

pub is_same_block_decides : (a b : Block) → Decides (is_same_block a b) (a ≡ b)
is_same_block_decides a b = (same_block a b, λ e. rw (← e) (simp (bool_eq_equiv.refl, int_eq_equiv.refl, nat_eq_equiv.refl)))

pub is_same_record_laws : IsEquivalence is_same_record
is_same_record_laws = decided is_same_record is_same_record_decides

pub is_same_block_laws : IsEquivalence is_same_block
is_same_block_laws = decided is_same_block is_same_block_decides
