-- What is accepted is well formed, and the laws of well-formed rows.
use Rattle.std.proofs.Common.{◌≡◌, is_ok, Ok, ap}
use Rattle.std.proofs.lemmas.Bool.Decides.{Decides-at}
use Rattle.crc.specs.Burst.{Rows}
use Rattle.block.specs.Code.{encoded, decoded, NoneNear, OnlyThese}
use Rattle.block.proofs.Codes.{accepts, encoded_back, none_near, only_these, of_accepted}
use Rattle.block.proofs.code.decode.Goals as goal

pub returns : goal.returns
returns c =
    let rows = c.args.rows.now in
    let k : Rows 16 rows = record { long = c.told-rows; narrow = λ i _. c.fits-rows i } in
    let r = c.judge.result in
    let e = c.judge.ensures in
    record {
      answer = e;
      accepts = Decides-at (is_ok r) (is_ok (decoded rows)) (ap is_ok e) (accepts rows);
      back = of_accepted rows r e (λ b. encoded b ≡ Ok rows) (encoded_back rows k);
      only = of_accepted rows r e (OnlyThese rows) (only_these rows k);
      burst = of_accepted rows r e (λ _. NoneNear rows) (none_near rows k);
    }
