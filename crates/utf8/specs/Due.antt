-- The state of the code's UTF-8 reader, as the definition's.
use Rattle.text.specs.Utf8.{Due as Due', start, due, broken}
use Rattle.utf8.specs.declared.Due.{Due}
use Rattle.utf8.specs.declared.Due.TheVariants.{Start, Byte, Broken}

abbrev pub due_of : Due → Due'
due_of Start = start
due_of (Byte low high n) = due low high n
due_of Broken = broken
