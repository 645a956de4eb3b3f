use mathlib.Core.Path.{refl, subst}
use native.Mathlib.Omega.{arith}
use Rattle.class_line.specs.declared.Class.TheVariants.{Kept, Dropped, Version, Uid, Kind, Entry}
use Rattle.class_line.specs.Class.{ClassIn}
use Rattle.from_card_seen.proofs.Settling.{settles-same, settles-full, settles-parts, key-used, key-new, member-used, member-new}
use Rattle.from_card_seen.proofs.settle.Goals as goal

pub overflow_cast-result : goal.overflow_cast-result
overflow_cast-result c =
    let w = subst (ClassIn c.args.s.now) c.in-Entry.is c.requires.2 in omega (arith, w)

pub note_key-m-requires : goal.note_key-m-requires
note_key-m-requires c =
    let w = subst (ClassIn c.args.s.now) c.in-Keyed.is c.requires.2 in (c.requires.0, c.requires.1, omega (arith, w.0), w.1, c.requires.3)

pub returns-then-m-n : goal.returns-then-m-n
returns-then-m-n c =
    key-used c.note_key-m.ensures c.in-Keyed.is (subst (ClassIn c.args.s.now) c.in-Keyed.is c.requires.2).0 c.if-m-n.true

pub overflow_cast-result-in-Keyed : goal.overflow_cast-result-in-Keyed
overflow_cast-result-in-Keyed c =
    let w = subst (ClassIn c.args.s.now) c.in-Keyed.is c.requires.2 in omega (arith, w.0)

pub note_key-m-requires-in-Member : goal.note_key-m-requires-in-Member
note_key-m-requires-in-Member c =
    let w = subst (ClassIn c.args.s.now) c.in-Member.is c.requires.2 in (c.requires.0, c.requires.1, omega arith, w.span, c.requires.3)

pub returns-then-m-n-2 : goal.returns-then-m-n-2
returns-then-m-n-2 c =
    member-used c.note_key-m-in-Member.ensures (subst (ClassIn c.args.s.now) c.in-Member.is c.requires.2) c.in-Member.is c.if-m-n-2.true

pub returns-in-Kept : goal.returns-in-Kept
returns-in-Kept c = settles-same c.requires.0 Kept 16 c.in-Kept.is (λ seen. (refl, refl))

pub returns-in-Dropped : goal.returns-in-Dropped
returns-in-Dropped c = settles-same c.requires.0 Dropped 17 c.in-Dropped.is (λ seen. (refl, refl))

pub returns-in-Version : goal.returns-in-Version
returns-in-Version c = settles-same c.requires.0 Version 18 c.in-Version.is (λ seen. (refl, refl))

pub returns-in-Uid : goal.returns-in-Uid
returns-in-Uid c = settles-same c.requires.0 Uid 19 c.in-Uid.is (λ seen. (refl, refl))

pub returns-in-Kind : goal.returns-in-Kind
returns-in-Kind c = settles-same c.requires.0 Kind 20 c.in-Kind.is (λ seen. (refl, refl))

pub returns-in-Full : goal.returns-in-Full
returns-in-Full c = settles-full c.requires.0 c.in-Full.is

pub returns-in-Parts : goal.returns-in-Parts
returns-in-Parts c = settles-parts c.requires.0 c.in-Parts.is

pub returns-in-Entry : goal.returns-in-Entry
returns-in-Entry c =
    settles-same c.requires.0 (Entry c.in-Entry.map) c.in-Entry.map c.in-Entry.is (λ seen. (refl, refl))

pub returns-else-m-n : goal.returns-else-m-n
returns-else-m-n c =
    key-new c.note_key-m.ensures c.in-Keyed.is (subst (ClassIn c.args.s.now) c.in-Keyed.is c.requires.2).0 c.if-m-n.false

pub returns-else-m-n-2 : goal.returns-else-m-n-2
returns-else-m-n-2 c =
    member-new c.note_key-m-in-Member.ensures (subst (ClassIn c.args.s.now) c.in-Member.is c.requires.2) c.in-Member.is c.if-m-n-2.false
