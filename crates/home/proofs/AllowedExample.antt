-- Worked examples: what a line may come home as, and what not.
use mathlib.Core.Path.{◌≡◌, refl, sym, ap}
use mathlib.Core.Logic.{inl}
use mathlib.Core.Bool.{Bool, false}
use mathlib.Core.List.{List, [], ◌∷◌}
use mathlib.Core.Option.{Option}
use Rattle.text.specs.Choice.{with-some}
use Rattle.text.specs.Bytes.{Bytes, ascii, any, empty, same, keep}
use Rattle.text.proofs.Cases.{not-both}
use Rattle.line.specs.Grammar.{Param, param, Line}
use Rattle.convert.specs.Value.{head_or}
use Rattle.line.specs.Params.{named}
use Rattle.convert.proofs.Opened.{convert-opened}
use Rattle.home.specs.Allowed.{strings_of, SameKept, Converted, uid, kind, full, parts, entry, member, here, AllStand, no_more, one_more, carries}

abbrev line : Bytes → List Param → Bytes → Line
line n ps v = record { group = []; name = n; params = ps; value = v }

-- ---- P5 and P2: two equal TEL lines, and what comes home of them

abbrev tel : Line
tel = line (ascii "TEL") (param (ascii "TYPE") (ascii "CELL" ∷ []) ∷ []) (ascii "+41 1")

abbrev tel_home : Bytes → Line
tel_home k = line (ascii "TEL") (param (ascii "PROP-ID") (k ∷ []) ∷ param (ascii "TYPE") (ascii "cell" ∷ []) ∷ []) (ascii "+41 1")

tel-allowed : (k : Bytes) → Converted tel (tel_home k)
unfolding convert-opened strings_of
tel-allowed k =
    entry
    (record {
      name = refl;
      listed = refl;
      takes = ((refl, refl), (refl, refl));
      value = (refl, refl);
      key = k;
      made = refl;
      given = inl refl;
      pref = refl;
      types = λ t. refl;
      strings = ascii "+41 1" ∷ [];
      said = (refl, refl);
    })

both-stand : AllStand [] (tel ∷ tel ∷ []) (tel_home (ascii "PHONE-1") ∷ tel_home (ascii "PHONE-2") ∷ [])
both-stand = one_more (tel-allowed (ascii "PHONE-1")) (one_more (tel-allowed (ascii "PHONE-2")) no_more here) here

-- ---- another value is not allowed

abbrev note : Bytes → Line
note v = line (ascii "NOTE") [] v

abbrev is_a : Option (List Bytes) → Bool
is_a o = with-some o (λ vs. same (head_or [] vs) (ascii "a")) false

other-value : Converted (note (ascii "a")) (note (ascii "b")) → ⊥
unfolding convert-opened strings_of
other-value (uid b p q e) = not-both b.0 refl
other-value (kind b p q e) = not-both b.0 refl
other-value (full b p q v x y) = not-both b.0 refl
other-value (parts b p q s) = not-both b.0 refl
other-value (entry s) = not-both (sym (ap is_a s.said.0)) (sym (ap is_a s.said.1))
other-value (member b s) = not-both b.0 refl

other-value-kept : SameKept (note (ascii "a")) (note (ascii "b")) → ⊥
unfolding convert-opened
other-value-kept s = not-both (ap (λ (v : Bytes). same v (ascii "a")) s.value) refl

-- ---- a parameter or a group may not go

abbrev tel_user : Line
tel_user = line (ascii "TEL") (param (ascii "USERNAME") (ascii "x" ∷ []) ∷ []) (ascii "1")

abbrev tel_group : Line
tel_group = record { group = ascii "g"; name = ascii "TEL"; params = []; value = ascii "1" }

abbrev tel_plain : Line
tel_plain = line (ascii "TEL") (param (ascii "PROP-ID") (ascii "PHONE-1" ∷ []) ∷ []) (ascii "1")

abbrev is_user : List Param → Bool
is_user ps = any (named (ascii "username")) ps

lost-parameter : Converted tel_user tel_plain → ⊥
unfolding convert-opened
lost-parameter (uid b p q e) = not-both b.0 refl
lost-parameter (kind b p q e) = not-both b.0 refl
lost-parameter (full b p q v x y) = not-both b.0 refl
lost-parameter (parts b p q s) = not-both b.0 refl
lost-parameter (entry s) = not-both s.takes.0.1 refl
lost-parameter (member b s) = not-both b.0 refl

lost-parameter-kept : SameKept tel_user tel_plain → ⊥
unfolding convert-opened
lost-parameter-kept s = not-both (ap is_user s.params) refl

lost-group : Converted tel_group tel_plain → ⊥
unfolding convert-opened
lost-group (uid b p q e) = not-both b.0 refl
lost-group (kind b p q e) = not-both b.0 refl
lost-group (full b p q v x y) = not-both b.0 refl
lost-group (parts b p q s) = not-both b.0 refl
lost-group (entry s) = not-both s.takes.0.0 refl
lost-group (member b s) = not-both b.0 refl

lost-group-kept : SameKept tel_group tel_plain → ⊥
unfolding convert-opened
lost-group-kept s = not-both refl (ap (λ (g : Bytes). empty g) s.group)

-- ---- a derived FN and VERSION are the only lines that need not stand

carried-example : keep carries (line (ascii "version") [] (ascii "4.0") ∷ line (ascii "FN") (param (ascii "Derived") (ascii "true" ∷ []) ∷ []) (ascii "x") ∷ line (ascii "FN") [] (ascii "x") ∷ tel ∷ tel ∷ [])
    ≡ line (ascii "FN") [] (ascii "x") ∷ tel ∷ tel ∷ []
unfolding convert-opened carries
carried-example = refl
