-- Two sealed images are one and the same exactly if their bytes are: that these are sealed can be shown in one way only.
use Rattle.std.specs.Prelude.{◌≡◌, true, is_ok, ◌==◌}
use Rattle.std.specs.Bool.{Decides}
use Rattle.std.specs.Cmp.{unsigned_Decides}
use Rattle.std.specs.Cmp.Lexicographic.{pointwise, pointwise_decides}
use Rattle.std.proofs.Common.{ap}
use Rattle.std.proofs.Math.Bool.{Bool-set}
use mathlib.Core.HLevel.{is_prop→PathP}
use Rattle.std.proofs.lemmas.Bool.Decides.{Decides-like}
use Rattle.image.specs.declared.image.SealedImage.{SealedImage}
use Rattle.image.specs.Image.{judged, Sealed}

same_image : (x y : SealedImage) → x.bytes ≡ y.bytes → x ≡ y
same_image x y p =
    λ i. record {
      bytes = p i;
      fit = is_prop→PathP (λ j. Sealed (p j)) (λ j. Bool-set (is_ok (judged (p j))) true) x.fit y.fit i;
    }

pub image_exact : (x y : SealedImage) → Decides (pointwise ◌==◌ x.bytes y.bytes) (x ≡ y)
image_exact x y =
    Decides-like (pointwise ◌==◌ x.bytes y.bytes) (same_image x y) (ap (λ z. z.bytes)) (pointwise_decides unsigned_Decides x.bytes y.bytes)
