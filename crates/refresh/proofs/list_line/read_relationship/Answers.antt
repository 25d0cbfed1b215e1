use Rattle.refresh.proofs.ListReading.{refused_words}
use Rattle.refresh.proofs.list_line.read_relationship.Goals as goal

pub returns-in-Err-clause-err : goal.returns-in-Err-clause-err
returns-in-Err-clause-err c = refused_words c.args.words.now c.args.number c.in-Err.error c.refused_by.result c.refused_by.ensures c.in-Err.ensures.value
