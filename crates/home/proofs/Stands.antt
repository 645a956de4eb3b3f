-- What a standing kept entry is, taken apart and put together.
use mathlib.Core.Path.{◌≡◌, refl, sym}
use mathlib.Core.Bool.{Bool, true, false, ◌&&◌, not}
use Rattle.text.specs.Bytes.{ascii, all, same, among}
use Rattle.text.proofs.Cases.{and_left, and_right, not-true, not-both}
use Rattle.line.specs.Grammar.{Param, param_name, fits}
use Rattle.convert.specs.Model.{Kept}
use Rattle.convert.specs.Classify.{Seen, classify, Class, as-version, as-uid, as-kind, as_dropped, as-full, as_parts, as-entry, as_member, as-kept}
use Rattle.convert.specs.FromJson.{is_lower_word, kept_as_line, is_kept, never_kept, kept_stands}

abbrev pub lower_param : Param → Bool
lower_param p = is_lower_word (param_name p) && not (same (param_name p) (ascii "value"))

pub record Stands (s : Seen) (k : Kept) : Type 0 where
  pub name : is_lower_word k.name ≡ true
  pub never : among k.name never_kept ≡ false
  pub type : is_lower_word k.type ≡ true
  pub params : all lower_param k.params ≡ true
  pub fit : fits (kept_as_line k).params ≡ true
  pub class : classify s (kept_as_line k) ≡ as-kept

pub is-kept : (c : Class) → is_kept c ≡ true → c ≡ as-kept
is-kept as-version h = not-both refl (sym h)
is-kept (as-uid v) h = not-both refl (sym h)
is-kept (as-kind v) h = not-both refl (sym h)
is-kept as_dropped h = not-both refl (sym h)
is-kept (as-full v) h = not-both refl (sym h)
is-kept (as_parts v) h = not-both refl (sym h)
is-kept (as-entry i e) h = not-both refl (sym h)
is-kept (as_member n j) h = not-both refl (sym h)
is-kept as-kept h = refl

pub stands-inv : (s : Seen) (k : Kept) → kept_stands s k ≡ true → Stands s k
unfolding kept_stands
stands-inv s k h =
    let n : Bool = is_lower_word k.name in
    let o : Bool = not (among k.name never_kept) in
    let t : Bool = is_lower_word k.type in
    let p : Bool = all lower_param k.params in
    let f : Bool = fits (kept_as_line k).params in
    let c : Bool = is_kept (classify s (kept_as_line k)) in
    let h₄ : n && o && t && p && f ≡ true = and_left (n && o && t && p && f) c h in
    let h₃ : n && o && t && p ≡ true = and_left (n && o && t && p) f h₄ in
    let h₂ : n && o && t ≡ true = and_left (n && o && t) p h₃ in
    let h₁ : n && o ≡ true = and_left (n && o) t h₂ in
    record {
      name = and_left n o h₁;
      never = not-true (among k.name never_kept) (and_right n o h₁);
      type = and_right (n && o) t h₂;
      params = and_right (n && o && t) p h₃;
      fit = and_right (n && o && t && p) f h₄;
      class = is-kept (classify s (kept_as_line k)) (and_right (n && o && t && p && f) c h);
    }

pub stands : (s : Seen) (k : Kept) → Stands s k → kept_stands s k ≡ true
unfolding kept_stands
stands s k h = rw (h.name, h.never, h.type, h.params, h.fit, h.class)
