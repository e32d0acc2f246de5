-- What a reader has to believe: the rules of docs/RULES.md as definitions. Each definition but those of Basics names the rule that it states. A rule that has
-- no definition says in docs/RULES.md where it shows. The order is that of the rules, with two exceptions: chains (Graph) come before the
-- tables, which count their links, and what the answers mean (Demand) comes after the calls.

-- small functions on tests and lists; what an answer is
pub mod Basics
pub mod Answers
-- sections 2 and 3: the survey text, and the two lists
pub mod Numbers
pub mod Lines
pub mod SurveyText
pub mod Survey
-- sections 4 and 5, and 8 for chains: threshold, hubs and tables
pub mod Threshold
pub mod Hubs
pub mod Graph
pub mod Tables
-- section 6: a pair's answer and its walk
pub mod Pair
pub mod Walk
-- section 7: the two-or-four test
pub mod TwoOrFour
-- section 10: what each call answers and leaves, with its refusals
pub mod Reading
pub mod Building
pub mod Asking
pub mod Walking
pub mod Testing
pub mod Writing
-- section 11: the listing
pub mod Listing
-- section 9: what the answers mean, in terms of chains
pub mod Demand
-- section 13: DIMACS edge files
pub mod Dimacs
