use Rattle.std.proofs.Common.{◌∙◌, sym}
use Rattle.lock_core.proofs.Sitting.{its-number}
use Rattle.rwsem_wake.proofs.hint.note_reader.Goals as goal

pub reader_hint-requires : goal.reader_hint-requires
reader_hint-requires g c = its-number c.args.site.now.small c.requires.own c.in-Some.me (sym c.task.ensures ∙ c.in-Some.is)
