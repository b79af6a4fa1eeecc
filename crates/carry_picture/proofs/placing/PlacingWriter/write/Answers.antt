-- The record can be placed, so it is, and the block is read again.
use Rattle.std.proofs.Common.{◌≡◌, Ok, refl, ap, ◌∙◌, arith, rules}
use Rattle.carry_picture.proofs.Stripes.{places, block_is}
use Rattle.carry_picture.proofs.placing.PlacingWriter.write.Goals as goal

pub returns : goal.returns
returns g c =
    let m = g.R.Raster in
    let p = c.place in
    let picture = c.args.self.now.picture.now in
    let image = c.args.self.now.image.now.sealed.bytes in
    let ok : m.rows c.args.slab.now ≡ 16 → m.words c.args.slab.now ≡ 1440 → p.result ≡ Ok tt = λ rows words.
    p.ensures.answer ∙ places picture.format picture.first c.args.spot.stripe.number c.args.spot.column _ _ image _ (search rules) (search rules) (search rules) (search rules) rows words c.zero_record.ensures (search rules) in
    record {
      answer = ok;
      kept = p.ensures.kept;
      one = λ rows words. record {
        reads = p.ensures.reads (ok rows words) ∙ ap Ok (block_is picture.format picture.first c.args.spot.stripe.number c.args.spot.column 16 1440 image _ (search rules) (search rules) (search rules) (search rules) refl refl c.zero_record.ensures (search rules));
        others = λ k d h. p.ensures.others k d (omega (arith, rows)) (omega (arith, words, h));
        only = λ i j hi hj. p.ensures.only i j (omega (arith, rows)) (omega (arith, words));
      };
    }
