-- Candidates in the code, in the words of the definitions.
use Rattle.std.specs.Prelude.{ℕ, ◌+◌, ◌*◌, Bool, List, [], ◌∷◌, Some, None, Option}
use Rattle.layout.specs.Bytes.{u16_at}
use Rattle.model.specs.Lookups.{Candidate as ModelCandidate}
use Rattle.candidates.specs.declared.candidate.Candidate.{Candidate}
use Rattle.candidates.specs.declared.entries.EntryArray.{EntryArray}
use Rattle.candidates.specs.declared.listed.Listed.{Listed}
use Rattle.candidates.specs.declared.listed.Listed.TheVariants.{One, Rules}
use Rattle.candidates.specs.declared.set.RuleSet.{RuleSet}
use Rattle.gsub.specs.Candidates.{set_rules}
use Rattle.candidates.specs.Actions.{action_of}
use Rattle.candidates.specs.Sets.{rule_made}
use Rattle.candidates.specs.Asked.{tests_of}

-- Entry k of an array.
abbrev pub entry_at : EntryArray → (k : ℕ) → ℕ
entry_at entries k = u16_at entries.part.now (entries.array.at + 2 * k)

abbrev pub asked : EntryArray → List (ℕ → Bool)
asked entries = tests_of entries.part.now entries.asks entries.array

abbrev pub candidate_of : Candidate → ModelCandidate
candidate_of c = record { pattern = record { backtrack = asked c.backtrack; input = asked c.input; lookahead = asked c.lookahead }; action = action_of c.action }

abbrev pub rules_in : RuleSet → List ModelCandidate
rules_in set = set_rules set.part.now (rule_made set.part.now set.rules) set.start

abbrev pub list_of : Listed → List ModelCandidate
list_of (One c) = candidate_of c ∷ []
list_of (Rules set) = rules_in set

abbrev pub listed : Option Listed → List ModelCandidate
listed None = []
listed (Some list) = list_of list
