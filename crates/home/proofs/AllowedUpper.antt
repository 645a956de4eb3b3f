-- A line says the same in upper-case names, as it is written.
use mathlib.Core.Path.{◌≡◌, ap, ◌∙◌}
use mathlib.Core.Bool.{true, ◌&&◌}
use mathlib.Core.List.{List, [], ◌∷◌, map}
use Rattle.text.specs.Bytes.{Bytes, ascii, empty, among, lowered, uppered, parts as parts_at, flat}
use Rattle.text.proofs.Letters.{lowered-uppered}
use Rattle.line.specs.Grammar.{Line}
use Rattle.line.specs.Params.{value_type, besides_value, merged}
use Rattle.line.proofs.Parameters.{upper_param}
use Rattle.line.proofs.Lines.{upper_line}
use Rattle.line.proofs.Uppered.{values_named-upper, besides_value-upper, value_type-upper, only_named-upper, merged-upper}
use Rattle.convert.specs.Answers.{is_named}
use Rattle.home.specs.Allowed.{untyped, plain, Takes, taken, SameEntry, SameMember, SameKept, Converted, uid, kind, full, parts, entry, member}
use Rattle.home.proofs.Images.{empty-map}

module _ (h : Line) where
  named-upper : (n : Bytes) → is_named n h ≡ true → is_named n (upper_line h) ≡ true
  named-upper n e = rw (lowered-uppered h.name) e

  no-params : empty h.group && empty h.params ≡ true → empty h.group && empty (upper_line h).params ≡ true
  no-params e = rw (empty-map upper_param h.params) e

  bare-upper : untyped h ≡ true → untyped (upper_line h) ≡ true
  bare-upper e = rw (value_type-upper h.params) e

  plain-upper : plain h ≡ true → plain (upper_line h) ≡ true
  plain-upper e = rw (value_type-upper h.params, besides_value-upper h.params, empty-map upper_param (besides_value h.params)) e

  takes-upper : (ns : List Bytes) → Takes ns h → Takes ns (upper_line h)
  takes-upper ns t = (t.0, only_named-upper ns h.params ∙ t.1)

module _ (l h : Line) where
  entry-upper : SameEntry l h → SameEntry l (upper_line h)
  entry-upper s =
      let n : lowered (uppered h.name) ≡ lowered h.name = lowered-uppered h.name in
      let v : value_type (map upper_param h.params) ≡ value_type h.params = value_type-upper h.params in
      record {
        name = n ∙ s.name;
        listed = s.listed;
        takes = (s.takes.0, rw n (takes-upper h (taken (lowered h.name)) s.takes.1));
        value = (s.value.0, rw (n, v) s.value.1);
        key = s.key;
        made = values_named-upper (ascii "prop-id") h.params ∙ s.made;
        given = s.given;
        pref = values_named-upper (ascii "pref") h.params ∙ s.pref;
        types = λ t. ap (λ (vs : List Bytes). among t (map lowered (flat (map (parts_at 44) vs)))) (values_named-upper (ascii "type") h.params) ∙ s.types t;
        strings = s.strings;
        said = (s.said.0, rw (n, v) s.said.1);
      }

  member-upper : SameMember l h → SameMember l (upper_line h)
  member-upper s =
      record {
        takes = (s.takes.0, takes-upper h (ascii "jsptr" ∷ ascii "value" ∷ []) s.takes.1);
        value = (s.value.0, bare-upper h s.value.1);
        pointer = s.pointer;
        points = (s.points.0, values_named-upper (ascii "jsptr") h.params ∙ s.points.1);
        json = s.json;
        came = s.came;
        home = s.home;
        came-is = s.came-is;
        home-is = s.home-is;
      }

  pub kept-upper : SameKept l h → SameKept l (upper_line h)
  kept-upper s =
      record {
        name = lowered-uppered h.name ∙ s.name;
        group = s.group;
        params = ap merged (besides_value-upper h.params) ∙ merged-upper (besides_value h.params) ∙ s.params;
        type = value_type-upper h.params ∙ s.type;
        value = s.value;
      }

pub converted-upper : (l h : Line) → Converted l h → Converted l (upper_line h)
converted-upper l h (uid b p q e) = uid (b.0, named-upper h (ascii "uid") b.1) p (no-params h q) e
converted-upper l h (kind b p q e) = kind (b.0, named-upper h (ascii "kind") b.1) p (no-params h q) e
converted-upper l h (full b p q v x y) = full (b.0, named-upper h (ascii "fn") b.1) p (plain-upper h q) v x y
converted-upper l h (parts b p q s) = parts (b.0, named-upper h (ascii "n") b.1) p (plain-upper h q) s
converted-upper l h (entry s) = entry (entry-upper l h s)
converted-upper l h (member b s) = member (b.0, named-upper h (ascii "jsprop") b.1) (member-upper l h s)
