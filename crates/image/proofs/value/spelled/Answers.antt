use Rattle.std.proofs.Common.{◌≡◌, ℕ, List, sym, refl, arith, rules, Bor}
use Rattle.fault.proofs.Turns.{callable, drained}
use Rattle.image.specs.Value.{spelled}
use Rattle.image.proofs.Spelled.{spelled_none, spelled_more, spelled_fits}
use Rattle.image.proofs.value.spelled.Goals as goal

-- after n turns the number is what the first n bits spell
abbrev Spelt : List ℕ → ℕ → ℕ → (Bor (List ℕ) × Bor ℕ) × ℕ → Type 0
Spelt bytes first n p = (p.0.0.now ≡ bytes) × (p.0.1.now ≡ first) × (p.1 ≡ spelled bytes first n)

pub fold-requires-clause-callable : goal.fold-requires-clause-callable
fold-requires-clause-callable c =
    let bytes = c.args.bytes.now in
    let first = c.args.first in
    callable _ (Spelt bytes first) c.args.width (λ k p q h j t. let more = spelled_more bytes first k in search rules) _ (λ k p h j. let fits = spelled_fits bytes first k (omega arith) in search rules) _
    (refl, refl, sym (spelled_none bytes first))

pub returns : goal.returns
returns c =
    let bytes = c.args.bytes.now in
    let first = c.args.first in
    let ran = c.fold.ensures.ran in
    (drained _ (Spelt bytes first) c.args.width (λ k p q h j t. let more = spelled_more bytes first k in search rules) ran.0 _ (ran.1, c.fold.result) (refl, refl, sym (spelled_none bytes first)) ran.2 ran.3).2
