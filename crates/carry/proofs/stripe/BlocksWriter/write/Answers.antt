-- The block can be written, so it is, and it is read again.
use Rattle.std.proofs.Common.{◌≡◌, Ok, sym, ap, ◌∙◌, arith, rules}
use Rattle.fault.specs.Refusing.{done}
use Rattle.block.specs.Slab.{writable}
use Rattle.carry.proofs.Stripes.{writes, read_inside}
use Rattle.carry.proofs.stripe.BlocksWriter.write.Goals as goal

pub returns : goal.returns
returns g c =
    let m = g.R.Raster in
    let w = c.write_block in
    let b = c.block_at.ensures.value in
    let ok : m.rows c.args.slab.now ≡ 16 → m.words c.args.slab.now ≡ 1440 → w.result ≡ Ok tt = λ rows words.
    w.ensures.answer ∙ ap (λ x. done (writable (m.rows c.args.slab.now) (m.words c.args.slab.now) c.args.spot.column x)) b ∙ writes _ _ c.args.spot.stripe.number c.args.spot.column rows words (search rules) (search rules) in
    record {
      answer = ok;
      kept = w.ensures.kept;
      one = λ rows words. record {
        reads = sym (read_inside (m.rows w.new.slab) (m.words w.new.slab) c.args.spot.column (m.at w.new.slab) (m.rows_kept c.args.slab.now w.new.slab w.ensures.kept ∙ rows) (m.words_kept c.args.slab.now w.new.slab w.ensures.kept ∙ words) (search rules)) ∙ w.ensures.reads (ok rows words) c.block_at.ensures.reference ∙ ap Ok b;
        others = λ k d h. w.ensures.others k d (omega (arith, rows)) (omega (arith, words, h));
        only = λ i j hi hj. w.ensures.only i j (omega (arith, rows)) (omega (arith, words));
      };
    }
