-- When two refusals are equal: exactly when they have the same number and the same place.
use Rattle.std.specs.Prelude.{◌≡◌, Bool, true, false, ◌&&◌, ◌==◌, refl, Option, Some, None}
use Rattle.std.specs.Bool.{Decides}
use Rattle.std.specs.Cmp.{IsEquivalence, decided, unsigned_Decides, nat_eq_equiv, on_equiv, and_equiv}
use Rattle.std.specs.Ordering.{on, eq_of_both}
use Rattle.std.proofs.Common.{sym, subst, true≢false, rules}
use Rattle.std.proofs.lemmas.Bool.Decides.{Decides-and}
use Rattle.fault.specs.declared.place.Place.{Place}
use Rattle.fault.specs.declared.place.Place.TheVariants.{Word, Slot}
use Rattle.fault.specs.declared.Fault.{Fault}
use Rattle.fault.specs.Table.{number_of, place_of}

-- of the places that two refusals name, where they name any
abbrev pub is_same_place : Option Place → Option Place → Bool
is_same_place None None = true
is_same_place None (Some q) = false
is_same_place (Some p) None = false
is_same_place (Some (Word row word)) (Some (Word row' word')) = row == row' && word == word'
is_same_place (Some (Word row word)) (Some (Slot slot)) = false
is_same_place (Some (Slot slot)) (Some (Word row word)) = false
is_same_place (Some (Slot slot)) (Some (Slot slot')) = slot == slot'

abbrev pub is_same : Fault → Fault → Bool
is_same = eq_of_both (on number_of ◌==◌) (on place_of is_same_place)

itself : (p : Option Place) → is_same_place p p ≡ true
itself None = refl
itself (Some (Word row word)) = (Decides-and (row == row) (word == word) (unsigned_Decides row row) (unsigned_Decides word word)).1 (refl, refl)
itself (Some (Slot slot)) = (unsigned_Decides slot slot).1 refl

only_itself : (p q : Option Place) → is_same_place p q ≡ true → p ≡ q
only_itself None None e = refl
only_itself None (Some q) e = absurd (true≢false (sym e))
only_itself (Some (Word row word)) None e = absurd (true≢false (sym e))
only_itself (Some (Slot slot)) None e = absurd (true≢false (sym e))
only_itself (Some (Word row word)) (Some (Word row' word')) e =
    let both = (Decides-and (row == row') (word == word') (unsigned_Decides row row') (unsigned_Decides word word')).0 e in
    λ i. Some (Word (both.0 i) (both.1 i))
only_itself (Some (Word row word)) (Some (Slot slot)) e = absurd (true≢false (sym e))
only_itself (Some (Slot slot)) (Some (Word row word)) e = absurd (true≢false (sym e))
only_itself (Some (Slot slot)) (Some (Slot slot')) e = λ i. Some (Slot ((unsigned_Decides slot slot').0 e i))

pub is_same_place_decides : (p q : Option Place) → Decides (is_same_place p q) (p ≡ q)
is_same_place_decides p q = (only_itself p q, λ e. subst (λ x. is_same_place p x ≡ true) e (itself p))

pub is_same_laws : IsEquivalence is_same
is_same_laws = and_equiv (on_equiv number_of nat_eq_equiv) (on_equiv place_of (decided is_same_place is_same_place_decides))

pub is_same_decides : (f g : Fault) → Decides (is_same f g) (f ≡ g)
is_same_decides f g = search rules
