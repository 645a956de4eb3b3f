use mathlib.Core.Path.{sym, ◌∙◌}
use lib.ListN.{drop}
use Rattle.text.specs.Bytes.{ascii}
use Rattle.convert.specs.Table.{reserved}
use Rattle.class_member.proofs.Pointing.{is_word, last-section, word-nicknames, word-emails, word-phones, word-links, word-notes, word-titles, word-organizations}
use Rattle.class_member.proofs.is_section.Goals as goal

pub returns-then-same_bytes : goal.returns-then-same_bytes
returns-then-same_bytes c = is_word c.args.p.now (ascii "nicknames") (drop 5 reserved) (word-nicknames) (sym c.same_bytes.ensures ∙ c.if-same_bytes.true)

pub returns-then-same_bytes-2 : goal.returns-then-same_bytes-2
returns-then-same_bytes-2 c =
    is_word c.args.p.now (ascii "emails") (drop 5 reserved) (word-emails)
    (sym c.same_bytes-2.ensures ∙ c.if-same_bytes-2.true)

pub returns-then-same_bytes-3 : goal.returns-then-same_bytes-3
returns-then-same_bytes-3 c =
    is_word c.args.p.now (ascii "phones") (drop 5 reserved) (word-phones)
    (sym c.same_bytes-3.ensures ∙ c.if-same_bytes-3.true)

pub returns-then-same_bytes-4 : goal.returns-then-same_bytes-4
returns-then-same_bytes-4 c =
    is_word c.args.p.now (ascii "links") (drop 5 reserved)
    (word-links) (sym c.same_bytes-4.ensures ∙ c.if-same_bytes-4.true)

pub returns-then-same_bytes-5 : goal.returns-then-same_bytes-5
returns-then-same_bytes-5 c =
    is_word c.args.p.now (ascii "notes")
    (drop 5 reserved) (word-notes) (sym c.same_bytes-5.ensures ∙ c.if-same_bytes-5.true)

pub returns-then-same_bytes-6 : goal.returns-then-same_bytes-6
returns-then-same_bytes-6 c =
    is_word
    c.args.p.now
    (ascii "titles") (drop 5 reserved) (word-titles) (sym c.same_bytes-6.ensures ∙ c.if-same_bytes-6.true)

pub returns-then-same_bytes-7 : goal.returns-then-same_bytes-7
returns-then-same_bytes-7 c =
    is_word c.args.p.now
    (ascii "organizations") (drop 5 reserved) (word-organizations) (sym c.same_bytes-7.ensures ∙ c.if-same_bytes-7.true)

pub returns : goal.returns
returns c =
    c.same_bytes-8.ensures ∙ sym (last-section c.args.p.now
    (sym
    c.same_bytes.ensures
    ∙
    c.if-same_bytes.false)
    (sym
    c.same_bytes-2.ensures
    ∙ c.if-same_bytes-2.false) (sym
    c.same_bytes-3.ensures ∙
    c.if-same_bytes-3.false) (sym
    c.same_bytes-4.ensures ∙
    c.if-same_bytes-4.false) (sym
    c.same_bytes-5.ensures ∙
    c.if-same_bytes-5.false) (sym c.same_bytes-6.ensures ∙
    c.if-same_bytes-6.false) (sym c.same_bytes-7.ensures ∙ c.if-same_bytes-7.false))
