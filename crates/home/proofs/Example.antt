-- Worked example: the premise holds of a card with a line of every kind.
use mathlib.Core.Path.{refl}
use mathlib.Core.List.{[], ◌∷◌}
use mathlib.Core.Option.{none}
use Rattle.text.specs.Bytes.{ascii}
use Rattle.json_text.specs.Tree.{jstr, jarr, econs, enil, member}
use Rattle.line.specs.Grammar.{param}
use Rattle.convert.specs.Model.{Entry, Kept, Card, singly}
use Rattle.convert.proofs.Opened.{convert-opened}
use Rattle.convert.proofs.Forms.{formed}
use Rattle.home.proofs.Proper.{ProperCard}

abbrev phone_of : Entry
phone_of = record { key = ascii "P1"; which = 0; parts = singly (ascii "tel:+1" ∷ []); types = 0 ∷ 3 ∷ []; pref = ascii "1" }

abbrev role_of : Entry
role_of = record { key = ascii "T_1"; which = 1; parts = singly (ascii "a, b\nc" ∷ []); types = []; pref = [] }

abbrev org_of : Entry
org_of = record { key = ascii "ORG-1"; which = 0; parts = singly ([] ∷ ascii "u;1" ∷ []); types = []; pref = [] }

abbrev kept_of : Kept
kept_of = record { name = ascii "fn"; group = ascii "g"; params = param (ascii "x") (ascii "v,1" ∷ [] ∷ []) ∷ []; type = ascii "text"; value = ascii "z" }

abbrev card : Card
card =
    record {
      uid = ascii "u";
      kind = ascii "org";
      full = none;
      parts = (ascii "a" ∷ []) ∷ [] ∷ [] ∷ [] ∷ [] ∷ (ascii "b,;" ∷ []) ∷ [] ∷ [];
      maps = [] ∷ [] ∷ (phone_of ∷ []) ∷ [] ∷ [] ∷ (role_of ∷ []) ∷ (org_of ∷ []) ∷ [];
      members = member (ascii "x/~") (jarr (econs (jstr (ascii "\n")) enil)) ∷ [];
      kept = kept_of ∷ [];
    }

proper-example : ProperCard card
unfolding convert-opened formed
proper-example =
    record {
      uid = refl;
      kind = refl;
      full = refl;
      seven = refl;
      parts = refl;
      entries = (
        tt,
        refl,
        (
          tt,
          refl,
          (
            (record { proper = record { key = refl; texts = refl; one_each = refl; codes = refl; order = refl; row = refl; pref = refl }; which = refl; texts-utf8 = refl }, tt),
            refl,
            (
              tt,
              refl,
              (
                tt,
                refl,
                (
                  (record { proper = record { key = refl; texts = refl; one_each = refl; codes = refl; order = refl; row = refl; pref = refl }; which = refl; texts-utf8 = refl }, tt),
                  refl,
                  ((record { proper = record { key = refl; texts = refl; one_each = refl; codes = refl; order = refl; row = refl; pref = refl }; which = refl; texts-utf8 = refl }, tt), refl, tt),
                ),
              ),
            ),
          ),
        ),
      );
      members = (record { name = refl; value = (14, refl, (refl, tt)) }, tt);
      names = refl;
      kept = (record { group = refl; params = (refl, refl, tt); no-group = refl; values = refl; params-utf8 = refl; value-utf8 = refl }, tt);
      stand = refl;
      carries = refl;
    }
