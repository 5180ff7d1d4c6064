use Rattle.replay.proofs.Records.{malformed-is}
use Rattle.replay.proofs.writing.malformed_bytes.Goals as goal

pub returns : goal.returns
returns c = malformed-is c.args.number c.parts_of-form.result.form c.parts_of-form.result.kind c.parts_of-form.result.at c.to_le_bytes.result c.args.fault c.parts_of-form.ensures c.to_le_bytes.ensures
