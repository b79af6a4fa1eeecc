use Rattle.image.specs.Image.{with_check}
use Rattle.image.proofs.Sealing.{end_put}
use Rattle.image.proofs.judge.with_check.Goals as goal

pub returns : goal.returns
unfolding with_check
returns c =
    simp (c.check.ensures, c.to_be_bytes.ensures, c.copy_from_slice-2.ensures.after, c.copy_from_slice.ensures.after) (end_put c.args.data.now _ c.requires)
