use Rattle.std.proofs.Common.{◌≡◌, ℕ, ◌*◌, ◌<◌, true, false, [], refl, ◌∙◌, rules}
use Rattle.column.specs.Column.{embedded}
use Rattle.column.proofs.Laws.{window_embeds, reads_back, others_same, few_differ}
use Rattle.column.proofs.column.embed.Given.{Over}
use Rattle.column.proofs.column.embed.Goals as goal

done : (g : Over) (c : goal.After-embed_rows g) (i j : ℕ) → i < g.R.Raster.rows c.args.slab.now → j < g.R.Raster.words c.args.slab.now → g.R.Raster.at c.embed_rows.new.slab i j ≡ embedded (g.R.Raster.at c.args.slab.now) c.args.column c.args.rows.now i j
done g c i j hi hj =
    let f : c.in_ok-first.first ≡ 32 * c.args.column = search rules in
    c.embed_rows.ensures.after i j hi hj ∙ window_embeds (g.R.Raster.at c.args.slab.now) c.in_ok-first.first c.args.column c.args.rows.now i j f

pub returns-clause-reads : goal.returns-clause-reads
returns-clause-reads g c =
    let m = g.R.Raster in
    let s = c.args.slab.now in
    λ _. reads_back (m.at s) (m.at c.embed_rows.new.slab) (m.rows s) (m.words s) c.args.column c.args.rows.now (search rules) (search rules) (done g c) c.told-rows c.fits-rows

pub returns-clause-others : goal.returns-clause-others
returns-clause-others g c =
    let m = g.R.Raster in
    let s = c.args.slab.now in
    others_same (m.at s) (m.at c.embed_rows.new.slab) (m.rows s) (m.words s) c.args.column c.args.rows.now true (done g c)

pub returns-clause-few : goal.returns-clause-few
returns-clause-few g c =
    let m = g.R.Raster in
    let s = c.args.slab.now in
    few_differ (m.at s) (m.at c.embed_rows.new.slab) (m.rows s) (m.words s) c.args.column c.args.rows.now true (done g c)

pub returns-in_err-first-clause-few : goal.returns-in_err-first-clause-few
returns-in_err-first-clause-few g c =
    let at = g.R.Raster.at c.args.slab.now in few_differ at at (g.R.Raster.rows c.args.slab.now) (g.R.Raster.words c.args.slab.now) c.args.column [] false (λ i j hi hj. refl)
