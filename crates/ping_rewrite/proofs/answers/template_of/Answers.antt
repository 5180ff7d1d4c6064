use Rattle.ping_rewrite.proofs.AnswerBytes.{numbered_at, little_access_denied, little_name_has_no_owner, little_service_unknown, little_false, big_access_denied, big_name_has_no_owner, big_service_unknown, big_false}
use Rattle.ping_rewrite.proofs.answers.template_of.Goals as goal

pub returns-in-Little-AccessDenied : goal.returns-in-Little-AccessDenied
returns-in-Little-AccessDenied c = numbered_at little_access_denied c.in-Little-AccessDenied.is-0 c.in-Little-AccessDenied.is-1 c.new.ensures.place c.new.ensures.bytes

pub returns-in-Little-NameHasNoOwner : goal.returns-in-Little-NameHasNoOwner
returns-in-Little-NameHasNoOwner c = numbered_at little_name_has_no_owner c.in-Little-NameHasNoOwner.is-0 c.in-Little-NameHasNoOwner.is-1 c.new-in-Little-NameHasNoOwner.ensures.place c.new-in-Little-NameHasNoOwner.ensures.bytes

pub returns-in-Little-ServiceUnknown : goal.returns-in-Little-ServiceUnknown
returns-in-Little-ServiceUnknown c = numbered_at little_service_unknown c.in-Little-ServiceUnknown.is-0 c.in-Little-ServiceUnknown.is-1 c.new-in-Little-ServiceUnknown.ensures.place c.new-in-Little-ServiceUnknown.ensures.bytes

pub returns-in-Little-False : goal.returns-in-Little-False
returns-in-Little-False c = numbered_at little_false c.in-Little-False.is-0 c.in-Little-False.is-1 c.new-in-Little-False.ensures.place c.new-in-Little-False.ensures.bytes

pub returns-in-Big-AccessDenied : goal.returns-in-Big-AccessDenied
returns-in-Big-AccessDenied c = numbered_at big_access_denied c.in-Big-AccessDenied.is-0 c.in-Big-AccessDenied.is-1 c.new-in-Big-AccessDenied.ensures.place c.new-in-Big-AccessDenied.ensures.bytes

pub returns-in-Big-NameHasNoOwner : goal.returns-in-Big-NameHasNoOwner
returns-in-Big-NameHasNoOwner c = numbered_at big_name_has_no_owner c.in-Big-NameHasNoOwner.is-0 c.in-Big-NameHasNoOwner.is-1 c.new-in-Big-NameHasNoOwner.ensures.place c.new-in-Big-NameHasNoOwner.ensures.bytes

pub returns-in-Big-ServiceUnknown : goal.returns-in-Big-ServiceUnknown
returns-in-Big-ServiceUnknown c = numbered_at big_service_unknown c.in-Big-ServiceUnknown.is-0 c.in-Big-ServiceUnknown.is-1 c.new-in-Big-ServiceUnknown.ensures.place c.new-in-Big-ServiceUnknown.ensures.bytes

pub returns-in-Big-False : goal.returns-in-Big-False
returns-in-Big-False c = numbered_at big_false c.in-Big-False.is-0 c.in-Big-False.is-1 c.new-in-Big-False.ensures.place c.new-in-Big-False.ensures.bytes
