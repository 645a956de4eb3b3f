use borrow.Author.Tests.{lt-ltb, le-ltb}
use Rattle.json_strings.specs.Decoded.{rest_of}
use Rattle.json_strings.proofs.rest_of.Goals as goal

pub returns-then-v-lt128 : goal.returns-then-v-lt128
unfolding rest_of
returns-then-v-lt128 c = rw (lt-ltb _ _ c.if-v-lt128.true)

pub returns-then-v-lt2048 : goal.returns-then-v-lt2048
unfolding rest_of
returns-then-v-lt2048 c = rw (le-ltb _ _ c.if-v-lt128.false, lt-ltb _ _ c.if-v-lt2048.true)

pub returns-then-v-lt65536 : goal.returns-then-v-lt65536
unfolding rest_of
returns-then-v-lt65536 c = rw (le-ltb _ _ c.if-v-lt128.false, le-ltb _ _ c.if-v-lt2048.false, lt-ltb _ _ c.if-v-lt65536.true)

pub returns : goal.returns
unfolding rest_of
returns c = rw (le-ltb _ _ c.if-v-lt128.false, le-ltb _ _ c.if-v-lt2048.false, le-ltb _ _ c.if-v-lt65536.false)
