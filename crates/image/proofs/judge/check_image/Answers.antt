use Rattle.std.proofs.Common.{◌≡◌, is_ok, ap}
use Rattle.std.proofs.lemmas.Bool.Decides.{Decides-at}
use Rattle.image.specs.Image.{judged}
use Rattle.image.proofs.Judging.{fit_if_sealed, sealed_if_fit}
use Rattle.image.proofs.Resealing.{sealing_decides}
use Rattle.image.proofs.judge.check_image.Goals as goal

answer : (c : goal.After-judge) → c.judge.result ≡ judged c.args.bytes.now
unfolding judged
answer c = c.judge.ensures

pub returns : goal.returns
returns c =
    let bytes = c.args.bytes.now in
    let e = ap is_ok (answer c) in
    record {
      answer = answer c;
      sealed = Decides-at _ _ e (λ s. s, λ s. s);
      accepts = Decides-at _ _ e (fit_if_sealed bytes, sealed_if_fit bytes);
      seals = Decides-at _ _ e (sealing_decides bytes (record { long = c.told-bytes; narrow = λ i _. c.fits-bytes i }));
    }
