-- What is put at the end of a file, from what was appended.
use Rattle.std.proofs.Common.{◌≡◌, ◌≤◌, ℕ, true, false, List, [], ◌++◌, Option, None, Some, Ok, Err, is_some, IfSome, refl, ap, sym, ◌∙◌, subst, length, drop, min, arith, inl, inr, length-append}
use Rattle.std.proofs.lemmas.List.{drop_all, drop_at}
use Rattle.std.proofs.lemmas.Bool.{cases_lt}
use Rattle.link_traits.specs.Told.{added}
use Rattle.link_traits.specs.declared.outside.FileFault.{FileFault}
use Rattle.link_traits.proofs.Parts.{added-none}
use Rattle.link_traits.specs.Views.{FilesView}
use Rattle.record_net.specs.Records.{head}
use Rattle.record_net.specs.Tapes.{Cut, Appended, Puts}

-- an append has failed, and nothing more is put
pub put_none : (path bytes : List ℕ) (files : FilesView) (failed : Option FileFault) → is_some failed ≡ true →
    Puts path bytes (record { files = files; failed = failed }) (record { files = files; failed = failed })
put_none path bytes files None e = absurd (cc)
put_none path bytes files (Some fault) e = record {
  whole = λ none. absurd (cc);
  part = λ other none some. absurd (cc);
  stays = λ other some. refl;
  cause = λ none failed. absurd (cc);
  short = λ none long. absurd (cc);
  others = λ p n. refl;
  count = omega arith;
  unread = refl;
}

-- no bytes are put by leaving all as it is
pub put_nothing : (path : List ℕ) (files : FilesView) (failed : Option FileFault) →
    Puts path [] (record { files = files; failed = failed }) (record { files = files; failed = failed })
put_nothing path files failed = record {
  whole = λ none. (none, sym (added-none (files.told path)));
  part = λ fault none some. absurd (cc);
  stays = λ fault some. refl;
  cause = λ none some. absurd (cc);
  short = λ none some. absurd (cc);
  others = λ p n. refl;
  count = omega arith;
  unread = refl;
}

-- all was appended
pub put_whole : (path bytes buffer : List ℕ) (old new : FilesView) (failed : Option FileFault) (u : Unit {0}) → is_some failed ≡ false → buffer ≡ bytes →
    Appended path buffer (Ok u) old new → Puts path bytes (record { files = old; failed = failed }) (record { files = new; failed = failed })
put_whole path bytes buffer old new (Some fault) u e b did = absurd (cc)
put_whole path bytes buffer old new None u e b did = record {
  whole = λ none. (refl, did.whole ∙ ap (λ (l : List ℕ). added l (old.told path)) b);
  part = λ fault none some. absurd (cc);
  stays = λ fault some. absurd (cc);
  cause = λ none some. absurd (cc);
  short = λ none some. absurd (cc);
  others = did.others;
  count = did.count;
  unread = did.unread;
}

-- an append failed
pub put_part : (path bytes buffer : List ℕ) (old new : FilesView) (failed : Option FileFault) (fault : FileFault) → is_some failed ≡ false → buffer ≡ bytes →
    Appended path buffer (Err fault) old new → Puts path bytes (record { files = old; failed = failed }) (record { files = new; failed = Some fault })
put_part path bytes buffer old new (Some other) fault e b did = absurd (cc)
put_part path bytes buffer old new None fault e b did = record {
  whole = λ none. absurd (cc);
  part = λ other none some. subst (λ (l : List ℕ). Cut l (old.told path) (new.told path)) b did.part;
  stays = λ other some. absurd (cc);
  cause = λ none some. did.cause (cc);
  short = λ none long. did.short (cc);
  others = did.others;
  count = did.count;
  unread = did.unread;
}

-- ---- a buffer after the limit of a read

pub rest_kept : (limit most : ℕ) (front whole : List ℕ) → length front ≡ most → most ≡ min (length whole) limit → drop limit (front ++ drop most whole) ≡ drop limit whole
rest_kept limit most front whole len is = elim (cases_lt (length whole) limit) [
  | inl short ↦
      let m : most ≡ length whole = omega (arith, is) in
      let none : drop most whole ≡ [] = drop_all most whole (omega (arith, m)) in
      let all : length (front ++ drop most whole) ≤ limit = omega (arith, length-append front (drop most whole), ap length none, len, m) in
      drop_all limit (front ++ drop most whole) all ∙ sym (drop_all limit whole (omega arith))
  | inr long ↦
      let m : most ≡ limit = omega (arith, is) in
      drop_at front (drop most whole) limit (len ∙ m) ∙ ap (λ (k : ℕ). drop k whole) m
]

-- ---- the first bytes

-- an empty file that gets the first bytes holds them
pub head_told : (old new : Option (List ℕ)) → IfSome old (λ bytes. bytes ≡ []) → new ≡ added head old → IfSome new (λ bytes. bytes ≡ head)
head_told None new empty e = subst (λ (o : Option (List ℕ)). IfSome o (λ bytes. bytes ≡ head)) (sym e) tt
head_told (Some b) new empty e = subst (λ (o : Option (List ℕ)). IfSome o (λ bytes. bytes ≡ head)) (sym e) (ap (λ (l : List ℕ). l ++ head) empty)
