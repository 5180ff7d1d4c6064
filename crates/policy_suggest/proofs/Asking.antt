-- The request of a message, by what is read of it.
use Rattle.std.proofs.Common.{◌≡◌, ◌==◌, Bool, true, false, if◌then◌else◌, refl, ap}
use Rattle.dbus_header.specs.Contents.{contents_of}
use Rattle.dbus_header.specs.Kinds.{Call, Error, Other, Return, Signal, kind_of}
use Rattle.dbus_header.specs.Message.{Message, destination, first_text, interface, member, path}
use Rattle.policy_suggest.specs.AskedBy.{asked_as, asked_by_message}
use Rattle.policy_suggest.specs.Read.{asked_in, role_in}
use Rattle.policy_view.specs.Verdicts.{OfUnknownType, Reply, client_role, client_role_at, role_of_call, role_of_signal, text_or_empty}

role-in : (m : Message) → role_in (contents_of m) ≡ client_role m
unfolding client_role kind_of
role-in m = by (m.kind == 1) (m.kind == 2) (m.kind == 3) (m.kind == 4)
  where
    by : (a b c d : Bool) →
        (if a then role_of_call (destination m) (interface m) else (if b then Reply else (if c then Reply else (if d then role_of_signal (destination m) else OfUnknownType))))
        ≡ client_role_at (if a then Call else (if b then Return else (if c then Error else (if d then Signal else Other)))) m
    by true b c d = refl
    by false true c d = refl
    by false false true d = refl
    by false false false true = refl
    by false false false false = refl

pub asked-in : (m : Message) → asked_in (contents_of m) (first_text m) ≡ asked_by_message m
asked-in m = ap (λ r. asked_as r (text_or_empty (path m)) (interface m) (text_or_empty (member m)) (first_text m)) (role-in m)
