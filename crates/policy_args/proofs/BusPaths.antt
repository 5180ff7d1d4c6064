-- Whether bytes are a path that a socket can have.
use Rattle.std.proofs.Common.{◌≡◌, ℕ, Bool, true, false, cond, not, ◌&&◌, nat_lt, List, Some, None, if◌then◌else◌, refl, ap, ap₂, subst, sym, ◌∙◌}
use Rattle.std.specs.List.{list_all}
use Rattle.std.specs.Str.{is_utf8, IsUtf8}
use Rattle.std.proofs.lemmas.Str.{IsUtf8-from_is_utf8, is_utf8-from_IsUtf8}
use Rattle.dbus_names.specs.Names.{is_empty}
use Rattle.policy_args.specs.Addresses.{is_bus_path}

pub path-is : (path text lent : List ℕ) → lent ≡ path → (not (is_empty lent) && list_all (nat_lt 0) lent) ≡ true → text ≡ path → IsUtf8 text → Some text ≡ (if is_bus_path path then Some path else None)
path-is path text lent of bytes same utf8 =
    let there : (not (is_empty path) && list_all (nat_lt 0) path) ≡ true = ap (λ p. not (is_empty p) && list_all (nat_lt 0) p) (sym of) ∙ bytes in
    ap (λ (t : List ℕ). Some t) same
    ∙ ap (λ b. cond b (Some path) None) (sym (ap₂ (λ (a b : Bool). a && b) there (is_utf8-from_IsUtf8 path (subst IsUtf8 same utf8))))

pub no-path : (path : List ℕ) → ¬ (IsUtf8 path) → None ≡ (if is_bus_path path then Some path else None)
no-path path lacks = ap (λ b. cond b (Some path) None) (sym (go (is_utf8 path) (not (is_empty path) && list_all (nat_lt 0) path) refl))
  where
    go : (b bytes : Bool) → is_utf8 path ≡ b → (bytes && b) ≡ false
    go true bytes e = absurd (lacks (IsUtf8-from_is_utf8 path e))
    go false true e = refl
    go false false e = refl
