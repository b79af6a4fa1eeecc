-- One column more, written or read.
use Rattle.std.proofs.Common.{◌≡◌, ℕ, zero, suc, ◌+◌, ◌*◌, ◌%◌, ◌<◌, ◌≤◌, Bool, true, false, cond, sym, refl, ap, ◌∙◌, subst, inl, inr, arith}
use Rattle.std.proofs.lemmas.Bool.{cases_eq}
use Rattle.std.proofs.lemmas.Bool.Decides.{nat_tests}
use Rattle.std.proofs.lemmas.List.Sums.{sum_by-cons}
use Rattle.std.specs.Prelude.{count_by, Result}
use Rattle.std.specs.List.{range_with_len}
use Rattle.column.specs.Column.{carrying}
use Rattle.fault.specs.declared.Fault.{Fault}
use Rattle.record.specs.declared.record.Block.{Block}
use Rattle.record.specs.Equality.{is_same_block_decides}
use Rattle.block.specs.Code.{decoded}
use Rattle.bench.specs.Stripe.{is_block, Reads, reads, count_read, Written, Laden}

luma_stays : (c i j : ℕ) → j % 2 ≡ 1 → carrying c i j ≡ false
luma_stays c i j h = grind (arith, nat_tests)

rest_stays : (c i j : ℕ) → 32 * (c + 1) ≤ j → carrying c i j ≡ false
rest_stays c i j h = grind (arith, nat_tests)

-- where each of n numbers passes, all are counted
all_counted : (p : ℕ → Bool) (a n : ℕ) → ((k : ℕ) → a ≤ k → k < a + n → p k ≡ true) → count_by p (range_with_len a n) ≡ n
all_counted p a zero h = refl
all_counted p a (suc n) h =
    let first : ◌≡◌ {A = ℕ} (cond (p a) 1 0) 1 = rw (h a (omega arith) (omega arith)) in
    let rest : count_by p (range_with_len (a + 1) n) ≡ n = all_counted p (a + 1) n (λ k l u. h k (omega arith) (omega arith)) in
    sum_by-cons (λ x. cond (p x) 1 0) a (range_with_len (a + 1) n) ∙ omega (arith, first, rest)

module _ (block : ℕ → ℕ → Block) where
  -- column n is written next
  pub one_laden : (stripe words n : ℕ) (at₀ at₁ at₂ : ℕ → ℕ → ℕ) → 32 * n + 32 ≤ words → Laden block stripe words n at₀ at₁ → Written block stripe n words at₁ at₂ → Laden block stripe words (n + 1) at₀ at₂
  one_laden stripe words n at₀ at₁ at₂ wide before now = record {
    reads = λ c h. elim (cases_eq c n) [ inl e ↦ subst (Reads block at₂ stripe) (sym e) now.reads | inr d ↦ ap decoded (now.others c d (omega arith)) ∙ before.reads c (omega arith) ];
    upper = λ i j hi hj. (now.only i j hi hj).0 ∙ before.upper i j hi hj;
    luma = λ i j hi hj h. (now.only i j hi hj).1 (luma_stays n i j h) ∙ before.luma i j hi hj h;
    rest = λ i j hi hj h. (now.only i j hi hj).1 (rest_stays n i j h) ∙ before.rest i j hi hj (omega arith);
  }

  -- where all are read as their blocks, all are counted
  pub count_all : (at : ℕ → ℕ → ℕ) (stripe n : ℕ) → ((c : ℕ) → c < n → Reads block at stripe c) → count_read block at stripe n ≡ n
  count_all at stripe n h =
      all_counted (reads block at stripe) 0 n (λ c _ lt. ap (λ (r : Result Block Fault). is_block r (block stripe c)) (h c (omega arith)) ∙ (is_same_block_decides (block stripe c) (block stripe c)).1 refl)
