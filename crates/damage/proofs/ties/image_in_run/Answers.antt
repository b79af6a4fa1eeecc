use Rattle.std.proofs.Common.{ℕ, List, refl, subst}
use Rattle.image.specs.Elements.{Bytes}
use Rattle.image.proofs.Joining.{joined_bytes}
use Rattle.damage.proofs.ties.image_in_run.Goals as goal

-- 540 bytes, since they are what its elements join to
pub returns : goal.returns
returns c =
    let bytes = c.args.image.now.bytes in
    let e = c.elements_from.ensures in
    record {
      answer = e.elements;
      image = (record { bytes = bytes; shape = subst (λ (l : List ℕ). Bytes l) e.back (joined_bytes c.elements_from.result); fit = c.args.image.now.fit }, refl);
    }
