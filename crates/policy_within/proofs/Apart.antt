-- The first word that begins with `z` and is free is apart from the entries.
use Rattle.std.proofs.Common.{◌≡◌, ℕ, true, List, [], fold, length, take, sym, subst, ap, ◌∙◌}
use Rattle.std.proofs.lemmas.List.{take_all}
use Rattle.std.specs.Prelude.{◌≤◌}
use Rattle.dbus_names.specs.Texts.{Text}
use Rattle.policy_args.specs.declared.entry.Entry.{Entry}
use Rattle.policy_within.specs.Apart.{IsApart, IsPlain, are_rooted}
use Rattle.policy_within.specs.Elements.{IsFirstFree, elements, fresh}
use Rattle.policy_within.specs.Steps.{with_z}
use Rattle.policy_within.proofs.FreshWords.{z_word-plain}

pub fresh-plain : (entries : List Entry) → IsFirstFree (elements entries) (fresh entries) → IsPlain (fresh entries)
fresh-plain entries first = subst (λ f. IsPlain f) (sym first.is) (z_word-plain first.number first.small)

pub fresh-apart : (entries : List Entry) → are_rooted entries ≡ true → IsFirstFree (elements entries) (fresh entries) → IsApart (fresh entries) entries
fresh-apart entries rooted first = record {
  plain = fresh-plain entries first;
  free = first.free;
  rooted = rooted;
}

-- after all entries
pub all-taken : (entries : List Entry) (words : List Text) (n : ℕ) → length entries ≤ n → words ≡ fold with_z [] (elements (take n entries)) → words ≡ fold with_z [] (elements entries)
all-taken entries words n le are = are ∙ ap (λ es. fold with_z [] (elements es)) (take_all n entries le)

pub all-rooted : (entries : List Entry) (n : ℕ) → length entries ≤ n → are_rooted (take n entries) ≡ true → are_rooted entries ≡ true
all-rooted entries n le h = ap are_rooted (sym (take_all n entries le)) ∙ h
