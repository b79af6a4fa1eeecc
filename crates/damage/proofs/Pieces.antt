-- Small pieces: functions changed at one number, refusals, what is settled, lists changed at one place, and what the tests of a slab say.
use Rattle.std.proofs.Common.{◌≡◌, ℕ, zero, suc, ◌*◌, ◌<◌, Bool, true, false, cond, not, eqb, ltb, List, [], ◌∷◌, length, get_or, set, is_ok, Ok, Err, Result, refl, subst, arith}
use Rattle.std.proofs.lemmas.Bool.{eqb-true, eqb-false, ltb-true, eq-eqb, cond_both, cond-true, and_parts}
use Rattle.fault.specs.declared.Fault.{Fault}
use Rattle.fault.specs.declared.Fault.TheVariants.{Length, SlabExtent, NotInFormat}
use Rattle.fault.specs.Refusing.{refuse, then}
use Rattle.block.proofs.Codes.{not-false}
use Rattle.format.specs.declared.table.Format.{Format}
use Rattle.format.specs.Formats.{columns_of, stripes_of, is_slab, in_format, index_of, element_count}
use Rattle.inserter.proofs.Placings.{passed_ok}
use Rattle.extractor.specs.declared.gathering.Gathering.{Gathering}
use Rattle.extractor.specs.Gather.{settled, admitted}
use Rattle.damage.specs.Chain.{put}

-- a relation holds of two choices by one test if it holds of both sides
pub cond_rel : {A : Type 0} (R : A → A → Type 0) (b : Bool) (x y x' y' : A) → (b ≡ true → R x x') → (b ≡ false → R y y') → R (cond b x y) (cond b x' y')
cond_rel R true x y x' y' h k = h refl
cond_rel R false x y x' y' h k = k refl

-- functions changed at one number
pub put_pick : {A : Type 0} (f : ℕ → A) (k : ℕ) (a : A) (j : ℕ) (P : A → Type 0) → (j ≡ k → P a) → ((j ≡ k → ⊥) → P (f j)) → P (put f k a j)
put_pick f k a j P x y = cond_both (eqb j k) a (f j) P (λ e. x (eqb-true j k e)) (λ e. y (eqb-false j k e))

pub put_both : {A : Type 0} (R : A → A → Type 0) (f g : ℕ → A) (k : ℕ) (a b : A) (j : ℕ) → (j ≡ k → R a b) → R (f j) (g j) → R (put f k a j) (put g k b j)
put_both R f g k a b j h o = cond_rel R (eqb j k) a (f j) b (g j) (λ e. h (eqb-true j k e)) (λ _. o)

pub put_here : {A : Type 0} (f : ℕ → A) (k : ℕ) (a : A) → put f k a k ≡ a
put_here f k a = cond-true (eqb k k) a (f k) (eq-eqb k k refl)

-- refusals that go on alike
pub refuse_alike : {A : Type 0} (b : Bool) (f : Fault) (x y : Result A Fault) → (b ≡ false → x ≡ y) → refuse b f x ≡ refuse b f y
refuse_alike b f x y h = cond_rel (λ x y. x ≡ y) b (Err f) x (Err f) y (λ _. refl) h

pub then_alike : {A B : Type 0} (r : Result A Fault) (k l : A → Result B Fault) → ((x : A) → r ≡ Ok x → k x ≡ l x) → then r k ≡ then r l
then_alike (Ok x) k l h = h x refl
then_alike (Err f) k l h = refl

-- and what is refused stays refused
pub refuse_refused : {A : Type 0} (b : Bool) (f : Fault) (rest : Result A Fault) → is_ok rest ≡ false → is_ok (refuse b f rest) ≡ false
refuse_refused true f rest h = refl
refuse_refused false f rest h = h

-- what is settled
pub settled_case : {A B : Type 0} (P : B → Type 0) (r : Result A Fault) (was : B) (makes : A → B) → P was → ((x : A) → r ≡ Ok x → P (makes x)) → P (settled r was makes)
settled_case P (Ok x) was makes old new = new x refl
settled_case P (Err f) was makes old new = old

pub settled_both : {A B : Type 0} (P : B → B → Type 0) (a b : Result A Fault) (one two : B) (k l : A → B) → a ≡ b →
    P one two → ((x : A) → a ≡ Ok x → P (k x) (l x)) → P (settled a one k) (settled b two l)
settled_both P a b one two k l e old new = subst (λ v. P (settled a one k) (settled v two l)) e (go a refl)
  where
    go : (v : Result _ Fault) → a ≡ v → P (settled v one k) (settled v two l)
    go (Ok x) h = new x h
    go (Err f) h = old

-- lists of one length changed alike at a place are alike there
pub set_alike : {A : Type 0} (l m : List A) (c : ℕ) (v d : A) → length l ≡ length m → get_or (set l c v) c d ≡ get_or (set m c v) c d
set_alike [] [] c v d e = refl
set_alike [] (y ∷ m) c v d e = absurd (omega arith)
set_alike (x ∷ l) [] c v d e = absurd (omega arith)
set_alike (x ∷ l) (y ∷ m) zero v d e = refl
set_alike (x ∷ l) (y ∷ m) (suc c) v d e = set_alike l m c v d (omega arith)

-- the extent of a slab, and the macroblocks of a format
pub slab_parts : (f : Format) (rows words : ℕ) → is_slab f rows words ≡ true → (rows ≡ 16) × (words ≡ 32 * columns_of f)
slab_parts f rows words e =
    let p = and_parts (eqb rows 16) (eqb words (32 * columns_of f)) e in
    (eqb-true rows 16 p.0, eqb-true words (32 * columns_of f) p.1)

pub format_parts : (f : Format) (s c : ℕ) → in_format f s c ≡ true → (s < stripes_of f) × (c < columns_of f)
format_parts f s c e =
    let p = and_parts (ltb s (stripes_of f)) (ltb c (columns_of f)) e in
    (ltb-true s (stripes_of f) p.0, ltb-true c (columns_of f) p.1)

-- an admitted gather is of a slab, and of a macroblock in the format
pub admitted_parts : (g : Gathering) (s c rows words slots sheet n : ℕ) → admitted g s c rows words slots sheet ≡ Ok n → (is_slab g.format rows words ≡ true) × (in_format g.format s c ≡ true)
admitted_parts g s c rows words slots sheet n e =
    let t = passed_ok (not (eqb slots element_count)) Length _ n e in
    let h = passed_ok (not (eqb sheet (columns_of g.format))) Length _ n t.1 in
    let x = passed_ok (not (is_slab g.format rows words)) SlabExtent _ n h.1 in
    (not-false _ x.0, inside (in_format g.format s c) x.1)
  where
    inside : (b : Bool) → cond b (Ok (index_of s c)) (Err NotInFormat) ≡ Ok n → b ≡ true
    inside true h = refl
    inside false h = cc
