use Rattle.block.proofs.Codes.{encoded_decodes, encoded_above, encoded_near}
use Rattle.block.proofs.code.encode.Goals as goal

pub returns : goal.returns
returns c =
    let b = c.args.block.now in
    let r = c.rows_of in
    record {
      answer = r.ensures.answer;
      back = encoded_decodes b r.result r.ensures.answer r.ensures.spelt;
      above = encoded_above b r.result r.ensures.answer r.ensures.spelt;
      burst = encoded_near b r.result r.ensures.answer r.ensures.spelt;
    }
