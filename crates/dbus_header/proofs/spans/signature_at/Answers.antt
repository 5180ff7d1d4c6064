use Rattle.dbus_header.proofs.spans.signature_at.Goals as goal

pub cut-requires : goal.cut-requires
cut-requires c = (c.requires c.in-Some.part c.in-Some.is).inside
