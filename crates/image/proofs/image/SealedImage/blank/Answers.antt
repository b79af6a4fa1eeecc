use Rattle.std.proofs.Common.{sym, subst}
use Rattle.image.specs.Image.{Sealed, Blank}
use Rattle.image.proofs.Blank.{blank_sealed, blank_fields, samples}
use Rattle.image.proofs.image.SealedImage.blank.Goals as goal

pub invariant_of-result : goal.invariant_of-result
invariant_of-result c = record { fit = subst Sealed (sym c.blank_image-bytes.ensures) blank_sealed }

pub returns : goal.returns
returns c = let e = c.blank_image-bytes.ensures in record { bytes = e; fields = subst Blank (sym e) blank_fields; samples = samples }
